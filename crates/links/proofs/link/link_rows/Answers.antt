use Rattle.std.proofs.Common.{length, Err, sym, ap, ◌∙◌, subst}
use Rattle.std.proofs.lemmas.List.{length-take-le}
use Rattle.std.proofs.lemmas.Result.{err_from_is_err_and}
use Rattle.std.specs.List.{AllByRecursion}
use Rattle.pattern.specs.Stands.{stands}
use Rattle.links.specs.Numbering.{numbered}
use Rattle.links.specs.Slots.{slots}
use Rattle.links.specs.Working.{Small}
use Rattle.links.proofs.WholeTurns.{numbered_small, rows_missing, rows_there, slots_many, whole_linked}
use Rattle.links.proofs.link.link_rows.Goals as goal

pub returns-in_err-check_room-clause-answer : goal.returns-in_err-check_room-clause-answer
returns-in_err-check_room-clause-answer c =
    let is = c.slot_count-count.ensures ∙ ap (λ ps. length (slots ps)) c.positions-positions.ensures in
    let fault = err_from_is_err_and c.from_residual-in_err-check_room.result c.from_residual-in_err-check_room.ensures.1 in
    fault.1 ∙ ap Err (fault.2 ∙ c.in_err-check_room.ensures.fault)
    ∙ sym (rows_missing c.args.table.now (stands c.in_ok-judge.judge) c.in_ok-judge.ensures.law (length c.args.rows.now) c.slot_count-count.result is c.in_err-check_room.ensures.short)

pub work_rows-requires : goal.work_rows-requires
work_rows-requires c =
    let t = c.in_ok-judge.ensures.law in
    let is = c.deref.ensures.0 ∙ c.in_ok-number_table.ensures t.pattern t.holds in
    record {
      whole = numbered t.pattern;
      is = is;
      fits =
          length-take-le c.slot_count-count.result c.args.rows.now c.in_ok-check_room.ensures.enough ∙ c.slot_count-count.ensures
          ∙ ap (λ ps. length (slots ps)) (c.positions-positions.ensures ∙ t.named) ∙ slots_many t.pattern;
      small = subst (AllByRecursion Small) (sym is) (numbered_small t.pattern t.limits);
    }

pub returns-clause-answer : goal.returns-clause-answer
returns-clause-answer c =
    let is = c.slot_count-count.ensures ∙ ap (λ ps. length (slots ps)) c.positions-positions.ensures in
    sym (rows_there c.args.table.now (stands c.in_ok-judge.judge) c.in_ok-judge.ensures.law (length c.args.rows.now) c.slot_count-count.result is c.in_ok-check_room.ensures.enough)

pub returns-clause-law : goal.returns-clause-law
returns-clause-law c =
    let t = c.in_ok-judge.ensures.law in
    let is = c.slot_count-count.ensures ∙ ap (λ ps. length (slots ps)) c.positions-positions.ensures in
    whole_linked c.args.table.now (stands c.in_ok-judge.judge) t (length c.args.rows.now) c.args.rows.now c.work_rows.new.rows c.slot_count-count.result is
    (c.work_rows.ensures (numbered t.pattern) (c.deref.ensures.0 ∙ c.in_ok-number_table.ensures t.pattern t.holds))
