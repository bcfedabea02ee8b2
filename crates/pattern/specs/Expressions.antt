-- Patterns as regular tree expressions, their commands in map order (the parts from left to right, each with
-- all below it, and then the command itself), and their bytes. Assumes nothing.
use Rattle.std.specs.Prelude.{◌≡◌, ℕ, suc, List, [], ◌∷◌, ◌++◌, map, refl}
use Rattle.std.specs.List.{flat_map}
use Rattle.format.specs.declared.command.PatternCommand.{PatternCommand}
use Rattle.format.specs.declared.command.PatternCommand.TheVariants.{Sum, Leaf, Node, Product, Closure}
use Rattle.format.specs.declared.entry.Entry.{Entry}
use Rattle.format.specs.Commands.{pattern_bytes}
use Rattle.format.specs.Entries.{entry_of}

infixl 20 ◌▸◌
-- A node has a code, points and its parts in order, of which its rank is the number. A product and a closure
-- have the constant at which they replace, and a product its first part first.
mutual
  pub data Expr : Type 0 where
    leaf : ℕ → Expr
    node : ℕ → ℕ → Parts → Expr
    sum : Expr → Expr → Expr
    product : ℕ → Expr → Expr → Expr
    closure : ℕ → Expr → Expr

  -- the parts of a node, the last one outermost
  pub data Parts : Type 0 where
    no_parts : Parts
    ◌▸◌ : Parts → Expr → Parts

abbrev pub count : Parts → ℕ
count no_parts = 0
count (ps ▸ e) = suc (count ps)

abbrev mutual
  pub commands : Expr → List PatternCommand
  commands (leaf code) = Leaf code ∷ []
  commands (node code points ps) = parts_commands ps ++ Node code (count ps) points ∷ []
  commands (sum a b) = commands a ++ (commands b ++ Sum ∷ [])
  commands (product code a b) = commands a ++ (commands b ++ Product code ∷ [])
  commands (closure code a) = commands a ++ Closure code ∷ []

  pub parts_commands : Parts → List PatternCommand
  parts_commands no_parts = []
  parts_commands (ps ▸ e) = parts_commands ps ++ commands e

-- The bytes of commands, and of an expression.
abbrev pub spell : List PatternCommand → List ℕ
spell cs = flat_map pattern_bytes cs

abbrev pub encode : Expr → List ℕ
encode e = spell (commands e)

-- The table of an expression.
abbrev pub table : Expr → List Entry
table e = map entry_of (commands e)

-- the sample: the closure at 10 of node 1 over node 20 on leaf 11, and leaf 10
sample : Expr
sample = closure 10 (node 1 0 ((no_parts ▸ node 20 7 (no_parts ▸ leaf 11)) ▸ leaf 10))

sample_bytes : encode sample ≡ 76 ∷ 0 ∷ 11 ∷ 78 ∷ 0 ∷ 20 ∷ 1 ∷ 7 ∷ 76 ∷ 0 ∷ 10 ∷ 78 ∷ 0 ∷ 1 ∷ 2 ∷ 0 ∷ 42 ∷ 0 ∷ 10 ∷ []
unfolding sample
sample_bytes = refl
