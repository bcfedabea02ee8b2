-- Reading one command of a file: which command stands at a place, or which fault is first there.
-- Assumes nothing.
use Rattle.std.specs.Prelude.{◌≡◌, ℕ, ◌+◌, ◌*◌, ◌≤◌, cond, List, [], ◌∷◌, ◌++◌, length, drop, Ok, Err, Result, ◌==◌, nat_le, nat_lt, refl}
use Rattle.format.specs.declared.command.PatternCommand.{PatternCommand}
use Rattle.format.specs.declared.command.PatternCommand.TheVariants.{Sum, Leaf, Node, Product, Closure}
use Rattle.format.specs.declared.command.MapCommand.{MapCommand}
use Rattle.format.specs.declared.command.MapCommand.TheVariants as mapped
use Rattle.format.specs.declared.fault.ByteFault.{ByteFault}
use Rattle.format.specs.declared.fault.ByteFault.TheVariants.{FileTooLong, NoCommand, OperandsMissing, CodeZero, RankOutside}

-- A code is not 0. Of its two bytes the high one comes first.
abbrev pub nonzero : ℕ → ℕ → Result ℕ ByteFault
nonzero at code = cond (code == 0) (Err (CodeZero at)) (Ok code)

abbrev pub code_of : ℕ → ℕ → ℕ → Result ℕ ByteFault
code_of at high low = nonzero at (high * 256 + low)

-- A node's rank is 1 to 4.
abbrev pub rank_of : ℕ → ℕ → Result ℕ ByteFault
rank_of at rank = cond (rank == 0) (Err (RankOutside at)) (cond (nat_lt 4 rank) (Err (RankOutside at)) (Ok rank))

-- What is in order goes on; the fault of what is not is the fault of the whole.
abbrev pub then : {X Y F : Type 0} → Result X F → (X → Result Y F) → Result Y F
then (Ok x) next = next x
then (Err fault) next = Err fault

-- The operands of a command that has a code alone.
abbrev pub lone_code : ℕ → List ℕ → Result ℕ ByteFault
lone_code at [] = Err (OperandsMissing at)
lone_code at (high ∷ []) = Err (OperandsMissing at)
lone_code at (high ∷ low ∷ rest) = code_of at high low

-- The operands of a pattern's node: code, rank and points.
abbrev pub node_operands : ℕ → List ℕ → Result PatternCommand ByteFault
node_operands at [] = Err (OperandsMissing at)
node_operands at (high ∷ []) = Err (OperandsMissing at)
node_operands at (high ∷ low ∷ []) = Err (OperandsMissing at)
node_operands at (high ∷ low ∷ rank ∷ []) = Err (OperandsMissing at)
node_operands at (high ∷ low ∷ rank ∷ points ∷ rest) =
    then (code_of at high low) (λ code. then (rank_of at rank) (λ r. Ok (Node code r points)))

-- The operands of a map's node: code and rank.
abbrev pub map_node_operands : ℕ → List ℕ → Result MapCommand ByteFault
map_node_operands at [] = Err (OperandsMissing at)
map_node_operands at (high ∷ []) = Err (OperandsMissing at)
map_node_operands at (high ∷ low ∷ []) = Err (OperandsMissing at)
map_node_operands at (high ∷ low ∷ rank ∷ rest) =
    then (code_of at high low) (λ code. then (rank_of at rank) (λ r. Ok (mapped.Node code r)))

-- A command of a pattern by its letter: L, N, +, . or *.
abbrev pub pattern_lettered : ℕ → ℕ → List ℕ → Result PatternCommand ByteFault
pattern_lettered at letter operands =
    cond (letter == 76) (then (lone_code at operands) (λ code. Ok (Leaf code)))
    (cond (letter == 78) (node_operands at operands)
    (cond (letter == 43) (Ok Sum)
    (cond (letter == 46) (then (lone_code at operands) (λ code. Ok (Product code)))
    (cond (letter == 42) (then (lone_code at operands) (λ code. Ok (Closure code))) (Err (NoCommand at))))))

-- The command of a pattern with which the bytes begin; their first byte stands at the place `at`.
abbrev pub pattern_first : ℕ → List ℕ → Result PatternCommand ByteFault
pattern_first at [] = Err (NoCommand at)
pattern_first at (letter ∷ operands) = pattern_lettered at letter operands

-- A command of a map by its letter: L or K.
abbrev pub map_lettered : ℕ → ℕ → List ℕ → Result MapCommand ByteFault
map_lettered at letter operands =
    cond (letter == 76) (then (lone_code at operands) (λ code. Ok (mapped.Leaf code)))
    (cond (letter == 75) (map_node_operands at operands) (Err (NoCommand at)))

-- The command of a map with which the bytes begin.
abbrev pub map_first : ℕ → List ℕ → Result MapCommand ByteFault
map_first at [] = Err (NoCommand at)
map_first at (letter ∷ operands) = map_lettered at letter operands

-- The bytes of a file from a place on. A file of more than 65,536 bytes is not read, and at its end or past it
-- there is no command.
abbrev pub bytes_from : List ℕ → ℕ → Result (List ℕ) ByteFault
bytes_from file at =
    cond (nat_lt 65536 (length file)) (Err FileTooLong) (cond (nat_le (length file) at) (Err (NoCommand at)) (Ok (drop at file)))

-- The command at a place of a file, from what some bytes begin with.
abbrev pub command_at : {C : Type 0} → (ℕ → List ℕ → Result C ByteFault) → List ℕ → ℕ → Result C ByteFault
command_at first file at = then (bytes_from file at) (first at)

abbrev pub pattern_command_at : List ℕ → ℕ → Result PatternCommand ByteFault
pattern_command_at = command_at pattern_first

abbrev pub map_command_at : List ℕ → ℕ → Result MapCommand ByteFault
map_command_at = command_at map_first

-- A command stands at a place of a file, and `rest` lies behind it: the law above the definitions of this file.
-- It is the same for both kinds of file, by the bytes of a command and the operands that it may have.
pub record StandsAt {C : Type 0} (bytes_of : C → List ℕ) (Operands : C → Type 0) (file : List ℕ) (at : ℕ) (command : C) (rest : List ℕ) : Type 0 where
  pub short : length file ≤ 65536
  pub here : drop at file ≡ bytes_of command ++ rest
  pub operands : Operands command

-- Some bytes begin with a command, and `rest` lies behind it.
pub record Begins {C : Type 0} (bytes_of : C → List ℕ) (Operands : C → Type 0) (bytes : List ℕ) (command : C) (rest : List ℕ) : Type 0 where
  pub here : bytes ≡ bytes_of command ++ rest
  pub operands : Operands command

leaf_11 : pattern_command_at (76 ∷ 0 ∷ 11 ∷ []) 0 ≡ Ok (Leaf 11)
leaf_11 = refl

past_the_end : pattern_command_at (76 ∷ 0 ∷ 11 ∷ []) 7 ≡ Err (NoCommand 7)
past_the_end = refl

zero_before_rank : pattern_command_at (43 ∷ 78 ∷ 0 ∷ 0 ∷ 9 ∷ 0 ∷ []) 1 ≡ Err (CodeZero 1)
zero_before_rank = refl
