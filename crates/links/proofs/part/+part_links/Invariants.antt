use Rattle.std.proofs.Common.{◌+◌, ◌*◌, ◌≤◌, length}
use Rattle.links.proofs.NodeTurns.{SomeLeft}
use Rattle.links.proofs.part.+part_links.Given as goal

-- the commands that are left grow fewer
abbrev pub decreases-pair_rows : goal.decreases-pair_rows
decreases-pair_rows l = 2 * length l.commands.now + 1

abbrev pub decreases-part_rows : goal.decreases-part_rows
decreases-part_rows l = 2 * length l.commands.now

abbrev pub decreases-parts_rows : goal.decreases-parts_rows
decreases-parts_rows l = 2 * length l.commands.now + 1

abbrev pub invariant-parts_rows-loop-i : goal.invariant-parts_rows-loop-i
invariant-parts_rows-loop-i l = record {
  start : l.start ≤ length l.commands;
  slot : l.slot ≤ length l.below;
  left : SomeLeft l.commands (length l.initial.own) l.initial.below l.below l.own l.i l.start l.slot;
}
