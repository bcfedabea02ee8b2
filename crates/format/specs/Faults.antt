-- The number and the place of each fault. docs/REFUSALS.md has the same in words.
-- Assumes nothing.
use Rattle.std.specs.Prelude.{ℕ}
use Rattle.format.specs.declared.fault.ByteFault.{ByteFault}
use Rattle.format.specs.declared.fault.ByteFault.TheVariants.{FileTooLong, NoCommand, OperandsMissing, CodeZero, RankOutside}
use Rattle.format.specs.declared.fault.PatternFault.{PatternFault}
use Rattle.format.specs.declared.fault.PatternFault.TheVariants.{Bytes, PartsMissing, NotOnePart, PositionsFull, TableFull}

abbrev pub byte_number : ByteFault → ℕ
byte_number FileTooLong = 17
byte_number (NoCommand at) = 1
byte_number (OperandsMissing at) = 2
byte_number (CodeZero at) = 3
byte_number (RankOutside at) = 4

-- a file that is too long is refused at the first byte that is too many
abbrev pub byte_place : ByteFault → ℕ
byte_place FileTooLong = 65536
byte_place (NoCommand at) = at
byte_place (OperandsMissing at) = at
byte_place (CodeZero at) = at
byte_place (RankOutside at) = at

abbrev pub pattern_number : PatternFault → ℕ
pattern_number (Bytes fault) = byte_number fault
pattern_number (PartsMissing at) = 5
pattern_number (NotOnePart at pending) = 6
pattern_number (PositionsFull at) = 7
pattern_number (TableFull at) = 8

abbrev pub pattern_place : PatternFault → ℕ
pattern_place (Bytes fault) = byte_place fault
pattern_place (PartsMissing at) = at
pattern_place (NotOnePart at pending) = at
pattern_place (PositionsFull at) = at
pattern_place (TableFull at) = at
