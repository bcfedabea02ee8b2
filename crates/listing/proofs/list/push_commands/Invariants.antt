use Rattle.std.proofs.Common.{string_bytes}
use Rattle.listing.proofs.Lines.{Sofar}
use Rattle.listing.proofs.list.push_commands.Given as goal

abbrev pub invariant-loop-i : goal.invariant-loop-i
invariant-loop-i l = Sofar l.table l.i (string_bytes l.initial.out) (string_bytes l.out) l.at
