use Rattle.std.proofs.Common.{◌≡◌, ◌++◌, take, string_bytes}
use Rattle.links.specs.Slots.{slots_under}
use Rattle.slot_lines.specs.Text.{slot_lines}
use Rattle.slot_lines.proofs.slots.Slots.push_children.Given as goal

abbrev pub invariant-loop-i : goal.invariant-loop-i
invariant-loop-i l =
    string_bytes l.out ≡ string_bytes l.initial.out ++ slot_lines l.self.positions.now l.first (slots_under l.named.number l.i) (take l.i l.row-items)
