use Rattle.std.proofs.Common.{set, ap, ◌∙◌}
use Rattle.format.specs.Entries.{entry, entry_of}
use Rattle.pattern.proofs.Filling.{filled_more}
use Rattle.pattern.proofs.read.fill.Goals as goal

pub loop-i-preserved : goal.loop-i-preserved
loop-i-preserved c =
    ap (λ l. set l c.loop-i.i c.from.result) c.loop-i.invariant
    ∙ ap (set _ c.loop-i.i) c.from.ensures
    ∙ filled_more entry_of c.args.commands.now c.args.table.now c.requires c.loop-i.i _ (entry 0 0 0 0) c.loop-i-test.true
