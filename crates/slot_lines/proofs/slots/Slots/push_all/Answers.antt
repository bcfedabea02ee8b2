use Rattle.std.proofs.Common.{string_bytes}
use Rattle.pattern.specs.Positions.{position}
use Rattle.slot_lines.proofs.Lines.{within, one_listed}
use Rattle.slot_lines.proofs.slots.Slots.push_all.Goals as goal

pub push_children-requires-clause-numbered : goal.push_children-requires-clause-numbered
push_children-requires-clause-numbered c = within c.loop-number.invariant (position 0 0 0) c.loop-number-test.true

pub loop-number-preserved : goal.loop-number-preserved
loop-number-preserved c =
    rw c.from-first.ensures (one_listed c.loop-number.invariant (position 0 0 0) c.loop-number-test.true (string_bytes c.push_children.new.out) c.in_ok-push_children.ensures)
