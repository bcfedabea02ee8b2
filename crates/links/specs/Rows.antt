-- Links as numbers, and the rules by which those of a numbered pattern follow from those of its parts.
-- docs/PATTERNS.md has the rules in words. Assumes nothing.
use Rattle.std.specs.Prelude.{◌≡◌, ℕ, ◌/◌, ◌%◌, ◌^◌, Bool, true, cond, ◌||◌, ◌↔◌, List, [], ◌∷◌, ◌++◌, map, length, replicate, ◌==◌, bit_or, bit_xor, refl}
use Rattle.std.specs.List.{list_any}
use Rattle.pattern.specs.Expressions.{Expr, leaf, node, sum, product, closure, Parts, no_parts, ◌▸◌}
use Rattle.links.specs.Numbering.{numbered, sample}
use Rattle.links.specs.Slots.{Slot, Link}

-- Whether a number holds the position b, which weighs 2 to the power b.
abbrev pub holds : ℕ → ℕ → Bool
holds b row = row / 2 ^ b % 2 == 1

-- The number of a link: it holds just the positions that stand in the slot.
abbrev pub LinkRow : Expr → Slot → ℕ → Type 0
LinkRow e s row = (x : ℕ) → (holds x row ≡ true) ↔ Link e s x

-- The numbers of the links of some slots, one for each.
abbrev pub LinkRows : Expr → List Slot → List ℕ → Type 0
LinkRows e [] [] = Unit {0}
LinkRows e [] (row ∷ rows) = ⊥
LinkRows e (s ∷ ss) [] = ⊥
LinkRows e (s ∷ ss) (row ∷ rows) = LinkRow e s row × LinkRows e ss rows

-- A link is cut at c: where it holds c, that is taken out and the positions of `instead` are put in.
abbrev pub cut : ℕ → ℕ → ℕ → ℕ
cut c instead row = cond (holds c row) (bit_or (bit_xor row (2 ^ c)) instead) row

abbrev pub any_holds : ℕ → List ℕ → Bool
any_holds c = list_any (holds c)

-- The links of a product's second part are empty where it is never reached.
abbrev pub kept : Bool → List ℕ → List ℕ
kept reached rows = cond reached rows (replicate (length rows) 0)

-- The link of the root slot, and those of the other slots in their order: a node's own come behind those of its
-- parts. In a product the second part's roots stand for c, in a closure its own.
abbrev mutual
  pub root_row : Expr → ℕ
  root_row (leaf c) = 2 ^ c
  root_row (node b points ps) = 2 ^ b
  root_row (sum a b) = bit_or (root_row a) (root_row b)
  root_row (product c a b) = cut c (root_row b) (root_row a)
  root_row (closure c a) = bit_or (root_row a) (2 ^ c)

  pub root_rows : Parts → List ℕ
  root_rows no_parts = []
  root_rows (ps ▸ e) = root_rows ps ++ root_row e ∷ []

abbrev mutual
  pub child_rows : Expr → List ℕ
  child_rows (leaf c) = []
  child_rows (node b points ps) = parts_rows ps ++ root_rows ps
  child_rows (sum a b) = child_rows a ++ child_rows b
  child_rows (product c a b) =
      map (cut c (root_row b)) (child_rows a) ++ kept (holds c (root_row a) || any_holds c (child_rows a)) (child_rows b)
  child_rows (closure c a) = map (cut c (bit_or (root_row a) (2 ^ c))) (child_rows a)

  pub parts_rows : Parts → List ℕ
  parts_rows no_parts = []
  parts_rows (ps ▸ e) = parts_rows ps ++ child_rows e

abbrev pub link_rows : Expr → List ℕ
link_rows e = root_row e ∷ child_rows e

sample_rows : link_rows (numbered sample) ≡ 12 ∷ 1 ∷ 2 ∷ 12 ∷ []
sample_rows = refl

never_reached : link_rows (numbered (product 11 (leaf 10) (node 20 0 (no_parts ▸ leaf 12)))) ≡ 1 ∷ 0 ∷ []
never_reached = refl
