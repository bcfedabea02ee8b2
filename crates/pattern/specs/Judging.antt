-- Judging the commands of a pattern one after another, in a file or in a table: what they amount to so far, which
-- of them are in order, and what the whole is. Assumes nothing.
use Rattle.std.specs.Prelude.{◌≡◌, ℕ, zero, suc, ◌+◌, ◌-◌, min, cond, List, [], ◌∷◌, ◌++◌, length, Ok, Err, Result, ◌==◌, nat_le, nat_lt, refl}
use Rattle.format.specs.declared.command.PatternCommand.{PatternCommand}
use Rattle.format.specs.declared.command.PatternCommand.TheVariants.{Leaf}
use Rattle.format.specs.declared.entry.Entry.{Entry}
use Rattle.format.specs.declared.fault.ByteFault.{ByteFault}
use Rattle.format.specs.declared.fault.ByteFault.TheVariants.{NoCommand}
use Rattle.format.specs.declared.fault.PatternFault.{PatternFault}
use Rattle.format.specs.declared.fault.PatternFault.TheVariants.{Bytes, PartsMissing, NotOnePart, PositionsFull, TableFull}
use Rattle.pattern.specs.declared.position.Position.{Position}
use Rattle.format.specs.Commands.{pattern_bytes, takes}
use Rattle.format.specs.Entries.{entry, entry_command}
use Rattle.pattern.specs.Positions.{new_position}
use Rattle.format.specs.Reading.{then, pattern_command_at}

-- What commands amount to: how many parts are pending, and which positions are named.
pub record Standing : Type 0 where
  pub pending : ℕ
  pub positions : List Position

abbrev pub start : Standing
start = record { pending = 0; positions = [] }

-- A command takes its parts from the pending ones and leaves one, and may name a position.
abbrev pub after : Standing → PatternCommand → Standing
after s c = record { pending = s.pending - takes c + 1; positions = s.positions ++ new_position c s.positions }

abbrev pub standing_from : Standing → List PatternCommand → Standing
standing_from s [] = s
standing_from s (c ∷ cs) = standing_from (after s c) cs

abbrev pub standing : List PatternCommand → Standing
standing cs = standing_from start cs

-- Whether a command is in order where the commands before it amount to `s`: it takes no more parts than are
-- pending, it names no 65th position, and an entry of the table is free for it. The first that fails counts.
abbrev pub admission : ℕ → ℕ → Standing → PatternCommand → Result PatternCommand PatternFault
admission free at s c =
    cond (nat_lt s.pending (takes c)) (Err (PartsMissing at))
    (cond (nat_lt 64 (length (after s c).positions)) (Err (PositionsFull at))
    (cond (free == 0) (Err (TableFull at)) (Ok c)))

-- The next command of a file, if its bytes are in order and then the command itself is.
abbrev pub checked : Result PatternCommand ByteFault → (PatternCommand → Result PatternCommand PatternFault) → Result PatternCommand PatternFault
checked (Ok c) check = check c
checked (Err fault) check = Err (Bytes fault)

abbrev pub next_command : ℕ → List ℕ → Standing → ℕ → Result PatternCommand PatternFault
next_command free file s at = checked (pattern_command_at file at) (admission free at s)

-- At the end of a file exactly one part is pending.
abbrev pub ending : List PatternCommand → ℕ → Result (List PatternCommand) PatternFault
ending cs at = cond ((standing cs).pending == 1) (Ok cs) (Err (NotOnePart at (standing cs).pending))

-- The commands of a file from the place `at` on, behind those that were read before it: all commands of the
-- file, or its first fault. `free` entries of the table are left.
abbrev pub judged_from : ℕ → List ℕ → List PatternCommand → ℕ → Result (List PatternCommand) PatternFault
judged_from zero file before at =
    cond (nat_le (length file) at) (ending before at) (then (next_command zero file (standing before) at) (λ c. Err (TableFull at)))
judged_from (suc free) file before at =
    cond (nat_le (length file) at) (ending before at)
    (then (next_command (suc free) file (standing before) at) (λ c. judged_from free file (before ++ c ∷ []) (at + length (pattern_bytes c))))

-- The commands of a pattern file, or its first fault, for a table of `room` entries. A pattern has at most 512
-- commands.
abbrev pub judged : ℕ → List ℕ → Result (List PatternCommand) PatternFault
judged room file = judged_from (min room 512) file [] 0

one_leaf : judged 9 (76 ∷ 0 ∷ 11 ∷ []) ≡ Ok (Leaf 11 ∷ [])
one_leaf = refl

no_entry : judged 0 (76 ∷ 0 ∷ 11 ∷ []) ≡ Err (TableFull 0)
no_entry = refl

two_parts : judged 9 (76 ∷ 0 ∷ 11 ∷ 76 ∷ 0 ∷ 12 ∷ []) ≡ Err (NotOnePart 6 2)
two_parts = refl

parts_before_table : judged 1 (76 ∷ 0 ∷ 11 ∷ 43 ∷ []) ≡ Err (PartsMissing 3)
parts_before_table = refl

-- The entries of a table behind those that were judged before: the commands that all of them stand for, or
-- their first fault, placed at the number of the entry.
abbrev pub table_from : List PatternCommand → List Entry → Result (List PatternCommand) PatternFault
table_from before [] = ending before (length before)
table_from before (e ∷ es) =
    then (checked (entry_command (length before) e) (admission (512 - length before) (length before) (standing before))) (λ c. table_from (before ++ c ∷ []) es)

-- The commands of a table, or its first fault.
abbrev pub table_judged : List Entry → Result (List PatternCommand) PatternFault
table_judged entries = table_from [] entries

stray_operand : table_judged (entry 76 11 0 0 ∷ entry 43 5 0 0 ∷ []) ≡ Err (Bytes (NoCommand 1))
stray_operand = refl
