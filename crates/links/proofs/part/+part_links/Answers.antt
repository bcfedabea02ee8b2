use Rattle.std.proofs.Common.{◌^◌, ◌++◌, length, sym, refl, ap, ◌∙◌, arith, rules}
use Rattle.std.proofs.lemmas.List.{length-append}
use Rattle.format.specs.declared.command.PatternCommand.TheVariants.{Product, Closure}
use Rattle.pattern.specs.Expressions.{commands}
use Rattle.links.proofs.NodeTurns.{ready_last, one_less, none_left}
use Rattle.links.proofs.PartTurns.{front_commands, front_length, worked_pair, worked_leaf, worked_node, worked_sum, worked_product, worked_closure}
use Rattle.links.proofs.Peeling.{some_command, small_last, own_fits, ready_node, ready_sum, ready_product, ready_closure}
use Rattle.links.proofs.part.+part_links.Goals as goal

pub pair_rows-returns-clause-law : goal.pair_rows-returns-clause-law
pair_rows-returns-clause-law t c = λ a b before ends fits.
    let cs = c.args.commands.now in
    let old = c.args.rows.now in
    let mid = c.part_rows-second.new.rows in
    let s = c.part_rows-second.result in
    let w = c.part_rows-second.ensures.law b (before ++ commands a) ends (omega (arith, fits)) in
    let v = c.part_rows-first.ensures.law a before (front_commands cs (before ++ commands a) b old mid s ends w) (omega (arith, front_length cs (before ++ commands a) b old mid s ends w, w.slot, fits)) in
    worked_pair cs before a b old mid c.part_rows-first.new.rows c.part_rows-first.result s ends w v

pub part_rows-unreachable-requires : goal.part_rows-unreachable-requires
part_rows-unreachable-requires t c =
    omega (arith, c.in_default.ensures.cases, ap length c.requires.ends, length-append c.requires.before (commands c.requires.part), some_command c.requires.part)

pub part_rows-of-requires : goal.part_rows-of-requires
part_rows-of-requires t c = small_last _ _ _ _ c.requires c.in-Some.ensures.cases.0 _ c.in-Leaf.is

pub part_rows-overflow_sub-rows : goal.part_rows-overflow_sub-rows
part_rows-overflow_sub-rows t c = own_fits _ _ _ _ c.requires c.in-Some.ensures.cases.0 _ _ _ c.in-Node.is

pub part_rows-parts_rows-start-requires : goal.part_rows-parts_rows-start-requires
part_rows-parts_rows-start-requires t c =
    (search rules, ready_node _ _ _ _ c.requires c.in-Some.ensures.cases.0 _ _ _ c.in-Node.is _ _ c.split_at_mut-below.ensures.front_len c.split_at_mut-below.ensures.back_len)

pub part_rows-of-requires-in-Node : goal.part_rows-of-requires-in-Node
part_rows-of-requires-in-Node t c = small_last _ _ _ _ c.requires c.in-Some.ensures.cases.0 _ c.in-Node.is

pub part_rows-pair_rows-requires : goal.part_rows-pair_rows-requires
part_rows-pair_rows-requires t c = (search rules, ready_sum _ _ _ _ c.requires c.in-Some.ensures.cases.0 c.in-Sum.is)

pub part_rows-pair_rows-requires-in-Product : goal.part_rows-pair_rows-requires-in-Product
part_rows-pair_rows-requires-in-Product t c = (search rules, ready_product _ _ _ _ c.requires c.in-Some.ensures.cases.0 _ c.in-Product.is)

pub part_rows-of-requires-in-Product : goal.part_rows-of-requires-in-Product
part_rows-of-requires-in-Product t c = small_last _ _ _ _ c.requires c.in-Some.ensures.cases.0 _ c.in-Product.is

pub part_rows-part_rows-part-requires : goal.part_rows-part_rows-part-requires
part_rows-part_rows-part-requires t c = (search rules, ready_closure _ _ _ _ c.requires c.in-Some.ensures.cases.0 _ c.in-Closure.is)

pub part_rows-of-requires-in-Closure : goal.part_rows-of-requires-in-Closure
part_rows-of-requires-in-Closure t c = small_last _ _ _ _ c.requires c.in-Some.ensures.cases.0 _ c.in-Closure.is

pub part_rows-returns-in-Leaf-clause-law : goal.part_rows-returns-in-Leaf-clause-law
part_rows-returns-in-Leaf-clause-law t c = λ e before ends fits.
    worked_leaf _ _ before _ e c.args.rows.now c.in-Some.ensures.cases.0 ends fits _ _ c.in-Leaf.is refl refl (c.row.ensures ∙ ap (λ b. 2 ^ b) c.of.ensures)

pub part_rows-returns-in-Node-clause-law : goal.part_rows-returns-in-Node-clause-law
part_rows-returns-in-Node-clause-law t c = λ e before ends fits.
    let s = c.split_at_mut-below.ensures in
    worked_node _ _ before _ e c.args.rows.now c.in-Some.ensures.cases.0 ends fits _ _ _ _ _ _ _ c.parts_rows-start.result _ c.in-Node.is s.front s.back_len c.parts_rows-start.ensures.law refl refl (c.row-in-Node.ensures ∙ ap (λ b. 2 ^ b) c.of-in-Node.ensures)

pub part_rows-returns-in-Sum-clause-law : goal.part_rows-returns-in-Sum-clause-law
part_rows-returns-in-Sum-clause-law t c = λ e before ends fits.
    let s = c.sum_of.ensures in
    worked_sum _ _ before _ e c.args.rows.now c.in-Some.ensures.cases.0 ends fits _ c.pair_rows.result _ c.in-Sum.is c.pair_rows.ensures.law s.start s.slot s.roots

pub part_rows-returns-in-Product-clause-law : goal.part_rows-returns-in-Product-clause-law
part_rows-returns-in-Product-clause-law t c = λ e before ends fits.
    let p = c.product_rows.ensures in
    worked_product _ _ before _ e c.args.rows.now c.in-Some.ensures.cases.0 ends fits _ _ _ c.pair_rows-in-Product.result _ (c.in-Product.is ∙ ap Product (sym c.of-in-Product.ensures)) c.pair_rows-in-Product.ensures.law p.start p.slot p.roots p.rows

pub part_rows-returns-in-Closure-clause-law : goal.part_rows-returns-in-Closure-clause-law
part_rows-returns-in-Closure-clause-law t c = λ e before ends fits.
    let p = c.closure_rows.ensures in
    worked_closure _ _ before _ e c.args.rows.now c.in-Some.ensures.cases.0 ends fits _ _ _ c.part_rows-part.result _ (c.in-Closure.is ∙ ap Closure (sym c.of-in-Closure.ensures)) c.part_rows-part.ensures.law p.start p.slot p.roots p.rows

pub parts_rows-part_rows-part-requires : goal.parts_rows-part_rows-part-requires
parts_rows-part_rows-part-requires t c =
    let v = c.loop-i.invariant in
    let r = c.requires in
    let w = v.left r.parts r.before r.all r.ends r.fits in
    (search rules, ready_last v.start v.slot w.0 w.1 c.loop-i-test.true r.small)

pub parts_rows-loop-i-preserved : goal.parts_rows-loop-i-preserved
parts_rows-loop-i-preserved t c =
    let v = c.loop-i.invariant in
    record {
      start = search rules;
      slot = search rules;
      left = λ ps before all is fits.
          let w = v.left ps before all is fits in
          rw c.set_link.ensures (one_less v.start v.slot w.0 w.1 c.loop-i-test.true c.part_rows-part.new.rows c.part_rows-part.result c.part_rows-part.ensures.law);
    }

pub parts_rows-returns-clause-law : goal.parts_rows-returns-clause-law
parts_rows-returns-clause-law t c = λ ps before all is fits.
    let v = c.loop-i.invariant in
    let w = v.left ps before all is fits in
    none_left v.start v.slot w.0 w.1 c.loop-i-test.false c.loop-i.auto.below
