-- The positions that the commands of a pattern name. Each node command is a position of its own; each
-- different constant, which a leaf, a product or a closure names, is one. They are numbered from 0 in the
-- order of first naming. Assumes nothing.
use Rattle.std.specs.Prelude.{◌≡◌, ℕ, Bool, cond, ◌&&◌, List, [], ◌∷◌, ◌++◌, ◌==◌, refl}
use Rattle.std.specs.List.{list_any}
use Rattle.format.specs.declared.command.PatternCommand.{PatternCommand}
use Rattle.format.specs.declared.command.PatternCommand.TheVariants.{Sum, Leaf, Node, Product, Closure}
use Rattle.pattern.specs.declared.position.Position.{Position}

-- A position by its symbol and its points.
abbrev pub position : ℕ → ℕ → ℕ → Position
position code rank points = record { code = code; rank = rank; points = points }

-- A constant has rank 0 and no points.
abbrev pub constant : ℕ → Position
constant code = position code 0 0

-- Whether the constant `code` is among the positions.
abbrev pub is_constant : ℕ → Position → Bool
is_constant code p = p.rank == 0 && p.code == code

abbrev pub has_constant : ℕ → List Position → Bool
has_constant code ps = list_any (is_constant code) ps

-- The position that naming a constant adds: none where it is there already.
abbrev pub new_constant : ℕ → List Position → List Position
new_constant code ps = cond (has_constant code ps) [] (constant code ∷ [])

-- The position that a command adds to those named before it.
abbrev pub new_position : PatternCommand → List Position → List Position
new_position (Leaf code) ps = new_constant code ps
new_position (Node code rank points) ps = position code rank points ∷ []
new_position Sum ps = []
new_position (Product code) ps = new_constant code ps
new_position (Closure code) ps = new_constant code ps

-- The positions after further commands, and those of a list of commands.
abbrev pub positions_after : List Position → List PatternCommand → List Position
positions_after ps [] = ps
positions_after ps (c ∷ cs) = positions_after (ps ++ new_position c ps) cs

abbrev pub positions : List PatternCommand → List Position
positions cs = positions_after [] cs

-- the sample: leaf 11, node 20, leaf 10, node 1, closure at 10
sample : positions (Leaf 11 ∷ Node 20 1 7 ∷ Leaf 10 ∷ Node 1 2 0 ∷ Closure 10 ∷ []) ≡ constant 11 ∷ position 20 1 7 ∷ constant 10 ∷ position 1 2 0 ∷ []
sample = refl

-- a product names its constant though no leaf does
unused : positions (Leaf 10 ∷ Leaf 10 ∷ Product 11 ∷ []) ≡ constant 10 ∷ constant 11 ∷ []
unused = refl
