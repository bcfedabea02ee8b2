-- The commands of a pattern file: proofs/StandsAt.antt at their kind, for those who read whole files.
-- Assumes nothing.
use Rattle.std.proofs.Common.{◌≡◌, ℕ, ◌+◌, ◌<◌, List, length, drop, Ok, arith}
use Rattle.format.specs.declared.command.PatternCommand.{PatternCommand}
use Rattle.format.specs.declared.command.PatternCommand.TheVariants.{Sum, Leaf, Node, Product, Closure}
use Rattle.format.specs.Commands.{pattern_bytes, PatternOperands}
use Rattle.format.specs.Reading.{pattern_first, pattern_command_at, StandsAt}
use Rattle.format.proofs.Spelling.{AllBytes, pattern_spelled, pattern_read}
use Rattle.format.proofs.StandsAt.{stands_there, read_there}

pub pattern_some : (c : PatternCommand) → 0 < length (pattern_bytes c)
pattern_some Sum = omega arith
pattern_some (Leaf code) = omega arith
pattern_some (Node code rank points) = omega arith
pattern_some (Product code) = omega arith
pattern_some (Closure code) = omega arith

module _ (file : List ℕ) (at : ℕ) where
  pub pattern_there : (c : PatternCommand) → AllBytes file → pattern_command_at file at ≡ Ok c → StandsAt pattern_bytes PatternOperands file at c (drop (at + length (pattern_bytes c)) file)
  pattern_there = stands_there pattern_bytes PatternOperands pattern_first pattern_some pattern_spelled pattern_read file at

  pub pattern_found : (c : PatternCommand) (rest : List ℕ) → StandsAt pattern_bytes PatternOperands file at c rest → pattern_command_at file at ≡ Ok c
  pattern_found = read_there pattern_bytes PatternOperands pattern_first pattern_some pattern_spelled pattern_read file at
