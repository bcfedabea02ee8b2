-- The refusals that may fit a command of a pattern file, in their order: the table of which the first that fits is
-- the answer. Assumes nothing.
use Rattle.std.specs.Prelude.{◌≡◌, ℕ, ◌+◌, ◌*◌, Bool, true, false, cond, not, ◌||◌, ◌⊎◌, List, [], ◌∷◌, length, ◌==◌, nat_lt, slice_index}
use Rattle.format.specs.declared.command.PatternCommand.{PatternCommand}
use Rattle.format.specs.declared.command.PatternCommand.TheVariants.{Sum, Leaf, Node, Product, Closure}
use Rattle.format.specs.declared.fault.ByteFault.TheVariants.{NoCommand, OperandsMissing, CodeZero, RankOutside}
use Rattle.format.specs.declared.fault.PatternFault.{PatternFault}
use Rattle.format.specs.declared.fault.PatternFault.TheVariants.{Bytes, PartsMissing, PositionsFull, TableFull}
use Rattle.format.specs.Commands.{pattern_bytes, takes}
use Rattle.pattern.specs.Judging.{Standing, after}

-- The letters of pattern commands: L, N, +, . and *.
abbrev pub letter : ℕ → Bool
letter b = b == 76 || (b == 78 || (b == 43 || (b == 46 || b == 42)))

-- The command that the bytes spell where they spell one; bytes that are missing count as 0.
abbrev pub spelled : List ℕ → PatternCommand
spelled bs =
    let code = slice_index bs 1 * 256 + slice_index bs 2 in
    cond (slice_index bs 0 == 76) (Leaf code)
    (cond (slice_index bs 0 == 78) (Node code (slice_index bs 3) (slice_index bs 4))
    (cond (slice_index bs 0 == 46) (Product code) (cond (slice_index bs 0 == 42) (Closure code) Sum)))

abbrev pub zero_code : PatternCommand → Bool
zero_code (Leaf code) = code == 0
zero_code (Node code rank points) = code == 0
zero_code Sum = false
zero_code (Product code) = code == 0
zero_code (Closure code) = code == 0

abbrev pub outside : PatternCommand → Bool
outside (Leaf code) = false
outside (Node code rank points) = rank == 0 || nat_lt 4 rank
outside Sum = false
outside (Product code) = false
outside (Closure code) = false

-- Each refusal with its test, for the command `c` that `n` bytes, of which `b` is the first, spell at the place
-- `at`, behind commands that amount to `s`, with `free` entries left. Their numbers are 1, 2, 3, 4, 5, 7 and 8.
abbrev pub tests : ℕ → ℕ → Standing → ℕ → ℕ → PatternCommand → List (Bool × PatternFault)
tests free at s b n c =
    (not (letter b), Bytes (NoCommand at))
    ∷ (nat_lt n (length (pattern_bytes c)), Bytes (OperandsMissing at))
    ∷ (zero_code c, Bytes (CodeZero at))
    ∷ (outside c, Bytes (RankOutside at))
    ∷ (nat_lt s.pending (takes c), PartsMissing at)
    ∷ (nat_lt 64 (length (after s c).positions), PositionsFull at)
    ∷ ((free == 0), TableFull at)
    ∷ []

abbrev pub refusals : ℕ → ℕ → Standing → List ℕ → List (Bool × PatternFault)
refusals free at s bs = tests free at s (slice_index bs 0) (length bs) (spelled bs)

-- The first that fits is `f`.
abbrev pub First : List (Bool × PatternFault) → PatternFault → Type 0
First [] f = ⊥
First (t ∷ ts) f = ((t.0 ≡ true) × (t.1 ≡ f)) ⊎ ((t.0 ≡ false) × First ts f)
