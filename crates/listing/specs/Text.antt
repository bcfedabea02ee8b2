-- The text by which a pattern is listed, and that by which a refusal is told. docs/INSPECT.md shows it.
-- Assumes nothing.
use Rattle.std.specs.Prelude.{◌≡◌, ℕ, ◌+◌, List, [], ◌∷◌, ◌++◌, length, Ok, Err, codes, decimal, Result, refl}
use Rattle.std.specs.Fmt.{digits}
use Rattle.format.specs.declared.command.PatternCommand.{PatternCommand}
use Rattle.pattern.specs.declared.position.Position.{Position}
use Rattle.format.specs.declared.fault.PatternFault.{PatternFault}
use Rattle.format.specs.Commands.{pattern_bytes}
use Rattle.format.specs.Words.{command_words, sentence}
use Rattle.pattern.specs.Expressions.{spell}
use Rattle.format.specs.Faults.{pattern_number, pattern_place}
use Rattle.pattern.specs.Judging.{judged}
use Rattle.pattern.specs.Words.{position_words}
use Rattle.pattern.specs.Positions.{positions}

-- A line for each command, with the place of its first byte.
abbrev pub command_line : ℕ → PatternCommand → List ℕ
command_line at c = codes "at " ++ (decimal at ++ (codes ": " ++ (command_words c ++ 10 ∷ [])))

abbrev pub command_lines : ℕ → List PatternCommand → List ℕ
command_lines at [] = []
command_lines at (c ∷ cs) = command_line at c ++ command_lines (at + length (pattern_bytes c)) cs

-- A line for each position, with its number.
abbrev pub position_line : ℕ → Position → List ℕ
position_line number p = codes "position " ++ (decimal number ++ (codes ": " ++ (position_words p ++ 10 ∷ [])))

abbrev pub position_lines : ℕ → List Position → List ℕ
position_lines number [] = []
position_lines number (p ∷ ps) = position_line number p ++ position_lines (number + 1) ps

-- The line at the end.
abbrev pub summary : ℕ → ℕ → ℕ → List ℕ
summary commands named bytes = decimal commands ++ (codes " commands, " ++ (decimal named ++ (codes " positions, " ++ (decimal bytes ++ (codes " bytes" ++ 10 ∷ [])))))

-- A pattern, by its commands.
abbrev pub listing : List PatternCommand → List ℕ
listing cs =
    command_lines 0 cs ++ (position_lines 0 (positions cs) ++ summary (length cs) (length (positions cs)) (length (spell cs)))

-- A refusal: its number and its place behind the letter of the file, and a sentence.
abbrev pub fault_text : PatternFault → List ℕ
fault_text fault =
    codes "fault P " ++ (decimal (pattern_number fault) ++ (codes " " ++ (decimal (pattern_place fault) ++ 10 ∷ (sentence fault ++ 10 ∷ []))))

-- What is told of a file: its commands and positions, or its first fault.
abbrev pub told : Result (List PatternCommand) PatternFault → List ℕ
told (Ok cs) = listing cs
told (Err fault) = fault_text fault

abbrev pub inspection : List ℕ → List ℕ
inspection file = told (judged 512 file)

one_leaf : inspection (76 ∷ 1 ∷ 2 ∷ []) ≡ codes "at 0: leaf 258" ++ 10 ∷ codes "position 0: constant 258, points 0" ++ 10 ∷ codes "1 commands, 1 positions, 3 bytes" ++ 10 ∷ []
unfolding digits
one_leaf = refl
