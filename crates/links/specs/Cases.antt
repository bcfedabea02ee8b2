-- The worked cases of docs/CASES.md about links and about which maps a pattern denotes. Assumes nothing.
use Rattle.std.specs.Prelude.{ℕ, [], ◌∷◌}
use Rattle.pattern.specs.Expressions.{Expr, leaf, node, sum, product, closure, no_parts, ◌▸◌}
use Rattle.links.specs.Language.{In}
use Rattle.links.specs.Numbering.{numbered, named, sample}
use Rattle.links.specs.Rows.{LinkRows}
use Rattle.links.specs.Slots.{slots}
use Rattle.links.specs.Trees.{Trees, none, more, lane}

-- 1(20(12), 10), as the trees below its root 1
abbrev pub other_lane : Trees ℕ
other_lane = more (more none 20 (more none 12 none)) 10 none

-- the closure at 10 of 2(10, 10), and the trees below the root of 2(10, 2(10, 10))
abbrev pub pair : Expr
pair = node 2 0 ((no_parts ▸ leaf 10) ▸ leaf 10)

abbrev pub uneven : Trees ℕ
uneven = more (more none 10 none) 2 (more (more none 10 none) 10 none)

-- the product at 10 of 2(10, 10) and 11 + 12, and the trees below the root of 2(11, 12)
abbrev pub choices : Expr
choices = product 10 pair (sum (leaf 11) (leaf 12))

abbrev pub different : Trees ℕ
different = more (more none 11 none) 12 none

-- the product at 11 of leaf 10 and 20(12), whose second part is never reached
abbrev pub unreached : Expr
unreached = product 11 (leaf 10) (node 20 0 (no_parts ▸ leaf 12))

pub record WorkedCases : Type 0 where
  pub sample_links : LinkRows (numbered sample) (slots (named sample)) (12 ∷ 1 ∷ 2 ∷ 12 ∷ [])
  pub lane_in : In sample 1 lane
  pub other_lane_out : In sample 1 other_lane → ⊥
  pub uneven_in : In (closure 10 pair) 2 uneven
  pub different_in : In choices 2 different
  pub unreached_links : LinkRows (numbered unreached) (slots (named unreached)) (1 ∷ 0 ∷ [])
