use Rattle.std.proofs.Common.{◌++◌, string_bytes}
use Rattle.links.specs.Slots.{slots}
use Rattle.slot_lines.specs.Text.{slot_lines}
use Rattle.slot_lines.proofs.Lines.{Listing}
use Rattle.slot_lines.proofs.slots.Slots.push_all.Given as goal

abbrev pub invariant-loop-number : goal.invariant-loop-number
invariant-loop-number l =
    Listing l.self.positions.now l.self.rows.now l.number l.first (string_bytes l.fn.out ++ slot_lines l.self.positions.now 0 (slots l.self.positions.now) l.self.rows.now) (string_bytes l.out)
