-- The table of a pattern: the entry of a command, and the command that an entry stands for.
-- Assumes nothing.
use Rattle.std.specs.Prelude.{◌≡◌, ℕ, cond, ◌&&◌, Ok, Err, Result, ◌==◌, refl}
use Rattle.format.specs.declared.command.PatternCommand.{PatternCommand}
use Rattle.format.specs.declared.command.PatternCommand.TheVariants.{Sum, Leaf, Node, Product, Closure}
use Rattle.format.specs.declared.entry.Entry.{Entry}
use Rattle.format.specs.declared.fault.ByteFault.{ByteFault}
use Rattle.format.specs.declared.fault.ByteFault.TheVariants.{NoCommand, CodeZero}
use Rattle.format.specs.Reading.{then, nonzero, rank_of}

abbrev pub entry : ℕ → ℕ → ℕ → ℕ → Entry
entry kind code rank points = record { kind = kind; code = code; rank = rank; points = points }

-- The entry of a command: its letter, its operands, and zeros for those that it lacks.
abbrev pub entry_of : PatternCommand → Entry
entry_of (Leaf code) = entry 76 code 0 0
entry_of (Node code rank points) = entry 78 code rank points
entry_of Sum = entry 43 0 0 0
entry_of (Product code) = entry 46 code 0 0
entry_of (Closure code) = entry 42 code 0 0

-- The command that an entry stands for, or its first fault, at the place `at`: there is no such command where
-- the kind is no letter of one, or where an operand that the command lacks is not 0.
abbrev pub bare_code : ℕ → Entry → Result ℕ ByteFault
bare_code at e = cond (e.rank == 0 && e.points == 0) (nonzero at e.code) (Err (NoCommand at))

abbrev pub entry_command : ℕ → Entry → Result PatternCommand ByteFault
entry_command at e =
    cond (e.kind == 76) (then (bare_code at e) (λ code. Ok (Leaf code)))
    (cond (e.kind == 78) (then (nonzero at e.code) (λ code. then (rank_of at e.rank) (λ rank. Ok (Node code rank e.points))))
    (cond (e.kind == 43) (cond (e.code == 0 && (e.rank == 0 && e.points == 0)) (Ok Sum) (Err (NoCommand at)))
    (cond (e.kind == 46) (then (bare_code at e) (λ code. Ok (Product code)))
    (cond (e.kind == 42) (then (bare_code at e) (λ code. Ok (Closure code))) (Err (NoCommand at))))))

leaf_11 : entry_command 5 (entry 76 11 0 0) ≡ Ok (Leaf 11)
leaf_11 = refl

stray_points : entry_command 5 (entry 76 0 0 9) ≡ Err (NoCommand 5)
stray_points = refl

code_before_rank : entry_command 5 (entry 78 0 9 0) ≡ Err (CodeZero 5)
code_before_rank = refl
