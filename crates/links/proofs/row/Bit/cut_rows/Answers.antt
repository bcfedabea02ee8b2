use Rattle.std.proofs.Common.{set, ap, ◌∙◌, arith}
use Rattle.std.proofs.lemmas.List.{get_or_default}
use Rattle.std.proofs.lemmas.List.Edits.{map_over_more}
use Rattle.links.specs.Rows.{cut}
use Rattle.links.proofs.row.Bit.cut_rows.Goals as goal

pub loop-row-preserved : goal.loop-row-preserved
loop-row-preserved c =
    let i = c.loop-row.row-index in
    let rows = c.loop-row.rows in
    ap (set rows i) c.cut_row.ensures
    ∙ map_over_more (cut c.args.self.position c.args.instead) c.args.rows.now rows i _ c.loop-row-test.true c.loop-row.invariant (get_or_default rows i 0 _ (omega arith))
