-- The number and the place of each fault of a table whose links are to be worked. docs/REFUSALS.md has the same in
-- words. Assumes nothing.
use Rattle.std.specs.Prelude.{ℕ}
use Rattle.format.specs.Faults.{pattern_number, pattern_place}
use Rattle.links.specs.declared.fault.LinkFault.{LinkFault}
use Rattle.links.specs.declared.fault.LinkFault.TheVariants.{Pattern, RowsMissing}

abbrev pub link_number : LinkFault → ℕ
link_number (Pattern fault) = pattern_number fault
link_number RowsMissing = 9

abbrev pub link_place : LinkFault → ℕ
link_place (Pattern fault) = pattern_place fault
link_place RowsMissing = 0
