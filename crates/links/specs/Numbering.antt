-- The numbered pattern, which has position numbers in place of codes; its trees are the numbered trees. A reading of
-- a map is a numbered tree that becomes the map when the code of its position stands at every root.
-- Assumes nothing.
use Rattle.std.specs.Prelude.{◌≡◌, ℕ, suc, cond, List, [], ◌∷◌, length, slice_index_or, refl}
use Rattle.pattern.specs.declared.position.Position.{Position}
use Rattle.pattern.specs.Expressions.{Expr, leaf, node, sum, product, closure, Parts, no_parts, ◌▸◌, commands, parts_commands}
use Rattle.pattern.specs.Positions.{position, is_constant, positions, positions_after}
use Rattle.links.specs.Trees.{Trees, relabel}
use Rattle.links.specs.Language.{In}

-- The number of a constant: that of the first position that is this constant. Where there is none yet it is the
-- number of positions, which the constant gets as it is named.
abbrev pub constant_number : ℕ → List Position → ℕ
constant_number c [] = 0
constant_number c (p ∷ ps) = cond (is_constant c p) 0 (suc (constant_number c ps))

-- The pattern with position numbers for codes, where the positions `ps` were named before it.
abbrev mutual
  pub numbered_behind : Expr → List Position → Expr
  numbered_behind (leaf c) ps = leaf (constant_number c ps)
  numbered_behind (node c points qs) ps = node (length (positions_after ps (parts_commands qs))) points (parts_behind qs ps)
  numbered_behind (sum a b) ps = sum (numbered_behind a ps) (numbered_behind b (positions_after ps (commands a)))
  numbered_behind (product c a b) ps =
      product (constant_number c (positions_after (positions_after ps (commands a)) (commands b))) (numbered_behind a ps) (numbered_behind b (positions_after ps (commands a)))
  numbered_behind (closure c a) ps = closure (constant_number c (positions_after ps (commands a))) (numbered_behind a ps)

  pub parts_behind : Parts → List Position → Parts
  parts_behind no_parts ps = no_parts
  parts_behind (qs ▸ e) ps = parts_behind qs ps ▸ numbered_behind e (positions_after ps (parts_commands qs))

abbrev pub numbered : Expr → Expr
numbered e = numbered_behind e []

-- The positions of a pattern, and the code and the rank of each.
abbrev pub named : Expr → List Position
named e = positions (commands e)

abbrev pub code_at : List Position → ℕ → ℕ
code_at ps b = (slice_index_or ps b (position 0 0 0)).code

abbrev pub rank_at : List Position → ℕ → ℕ
rank_at ps b = (slice_index_or ps b (position 0 0 0)).rank

-- The numbered tree with the root b is a reading of the map with the root x.
pub record Reading (e : Expr) (b : ℕ) (bs : Trees ℕ) (x : ℕ) (xs : Trees ℕ) : Type 0 where
  pub numbered_tree : In (numbered e) b bs
  pub root : code_at (named e) b ≡ x
  pub below : relabel (code_at (named e)) bs ≡ xs

-- the sample: its constants 11 and 10 are positions 0 and 2, its nodes 20 and 1 are positions 1 and 3
abbrev pub sample : Expr
sample = closure 10 (node 1 0 ((no_parts ▸ node 20 7 (no_parts ▸ leaf 11)) ▸ leaf 10))

sample_numbered : numbered sample ≡ closure 2 (node 3 0 ((no_parts ▸ node 1 7 (no_parts ▸ leaf 0)) ▸ leaf 2))
sample_numbered = refl
