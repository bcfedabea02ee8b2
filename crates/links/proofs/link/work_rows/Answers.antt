use Rattle.std.proofs.Common.{◌≡◌, ◌-◌, [], length, take, drop, sym, ap, ◌∙◌, arith, rules}
use Rattle.std.proofs.lemmas.List.{places}
use Rattle.pattern.proofs.Stack.{commands_known}
use Rattle.links.specs.Rows.{link_rows}
use Rattle.links.proofs.WholeTurns.{all_rows}
use Rattle.links.proofs.link.work_rows.Goals as goal

pub returns : goal.returns
returns c = λ e is.
    let same : length (take (length c.args.rows.now - 1) (drop 1 c.args.rows.now)) ≡ length c.args.rows.now - 1 = search (rules, places) in
    let long = c.requires.fits ∙ ap (λ f. length (link_rows f)) (commands_known c.requires.whole e (sym c.requires.is ∙ is)) in
    all_rows e c.args.rows.now _ c.part_rows-part.new.rows c.part_rows-part.result long same (c.part_rows-part.ensures.law e [] is (omega (arith, same, long)))
