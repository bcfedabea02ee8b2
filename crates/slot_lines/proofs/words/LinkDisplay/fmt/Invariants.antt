use Rattle.std.proofs.Common.{◌≡◌, true, take}
use denote.Text.{Utf8}
use denote.Shadow.{shadow}
use Rattle.std.specs.Fmt.{HasWritten, IsPlainFormatter}
use Rattle.slot_lines.specs.Text.{names}
use Rattle.slot_lines.proofs.Naming.{separator, still_first}
use Rattle.slot_lines.proofs.words.LinkDisplay.fmt.Given as goal

abbrev pub invariant-loop-number : goal.invariant-loop-number
invariant-loop-number g l = record {
  is_text : shadow (Utf8 l.comma);
  comma_is : l.comma ≡ separator (still_first true 0 (take l.number l.self.positions.now) l.self.row);
  named : IsPlainFormatter l.initial.f → HasWritten g.W.Write.write_str_gives l.initial.f (names true 0 (take l.number l.self.positions.now) l.self.row) l.f;
}
