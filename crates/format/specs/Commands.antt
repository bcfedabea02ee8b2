-- The commands of patterns and maps: the bytes of each, how many parts it takes, and which operands it
-- may have. Assumes nothing.
use Rattle.std.specs.Prelude.{◌≡◌, ℕ, ◌/◌, ◌%◌, ◌<◌, ◌≤◌, List, [], ◌∷◌, refl}
use Rattle.format.specs.declared.command.PatternCommand.{PatternCommand}
use Rattle.format.specs.declared.command.PatternCommand.TheVariants.{Sum, Leaf, Node, Product, Closure}
use Rattle.format.specs.declared.command.MapCommand.{MapCommand}
use Rattle.format.specs.declared.command.MapCommand.TheVariants as mapped

-- A code has two bytes, the high one first.
abbrev pub code_bytes : ℕ → List ℕ → List ℕ
code_bytes code rest = code / 256 ∷ code % 256 ∷ rest

-- The bytes of a pattern command: the letter L, N, +, . or *, and its operands.
abbrev pub pattern_bytes : PatternCommand → List ℕ
pattern_bytes (Leaf code) = 76 ∷ code_bytes code []
pattern_bytes (Node code rank points) = 78 ∷ code_bytes code (rank ∷ points ∷ [])
pattern_bytes Sum = 43 ∷ []
pattern_bytes (Product code) = 46 ∷ code_bytes code []
pattern_bytes (Closure code) = 42 ∷ code_bytes code []

-- The bytes of a map command: the letter L or K, and its operands.
abbrev pub map_bytes : MapCommand → List ℕ
map_bytes (mapped.Leaf code) = 76 ∷ code_bytes code []
map_bytes (mapped.Node code rank) = 75 ∷ code_bytes code (rank ∷ [])

-- A code is 1 to 65,535; the rank of a node is 1 to 4; points are 0 to 255.
abbrev pub Code : ℕ → Type 0
Code code = (0 < code) × (code < 65536)

abbrev pub Rank : ℕ → Type 0
Rank rank = (0 < rank) × (rank ≤ 4)

abbrev pub Points : ℕ → Type 0
Points points = points < 256

abbrev pub PatternOperands : PatternCommand → Type 0
PatternOperands (Leaf code) = Code code
PatternOperands (Node code rank points) = Code code × Rank rank × Points points
PatternOperands Sum = Unit {0}
PatternOperands (Product code) = Code code
PatternOperands (Closure code) = Code code

abbrev pub MapOperands : MapCommand → Type 0
MapOperands (mapped.Leaf code) = Code code
MapOperands (mapped.Node code rank) = Code code × Rank rank

-- How many of the parts before it a command takes; it leaves one.
abbrev pub takes : PatternCommand → ℕ
takes (Leaf code) = 0
takes (Node code rank points) = rank
takes Sum = 2
takes (Product code) = 2
takes (Closure code) = 1

-- the sample's node 20 of rank 1 with 7 points
node_20 : pattern_bytes (Node 20 1 7) ≡ 78 ∷ 0 ∷ 20 ∷ 1 ∷ 7 ∷ []
node_20 = refl
