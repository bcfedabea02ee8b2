-- What the links of a numbered pattern say of its trees: a tree of positions is a numbered tree exactly where every
-- position in it has as many children as its rank, its root is in the link of the root slot, and each child is in
-- the link of its slot. Assumes nothing.
use Rattle.std.specs.Prelude.{◌≡◌, ℕ, suc, ◌↔◌}
use Rattle.std.specs.List.{AllByRecursion}
use Rattle.format.specs.Commands.{PatternOperands}
use Rattle.pattern.specs.Expressions.{Expr, commands}
use Rattle.links.specs.Trees.{Trees, none, more, width}
use Rattle.links.specs.Language.{In}
use Rattle.links.specs.Numbering.{numbered, named, rank_at}
use Rattle.links.specs.Slots.{root, child, Link}

-- Of trees side by side the i-th root is one of P i, and below each root x its i-th child is one of F x i.
abbrev pub Fit : (ℕ → ℕ → ℕ → Type 0) → (ℕ → ℕ → Type 0) → Trees ℕ → Type 0
Fit F P none = Unit {0}
Fit F P (more ts x xs) = Fit F P ts × P (suc (width ts)) x × Fit F (F x) xs

-- Each root has as many children as its rank.
abbrev pub Ranks : (ℕ → ℕ) → Trees ℕ → Type 0
Ranks rank none = Unit {0}
Ranks rank (more ts x xs) = Ranks rank ts × (width xs ≡ rank x) × Ranks rank xs

-- The patterns whose codes, ranks and points are in range.
abbrev pub Operands : Expr → Type 0
Operands e = AllByRecursion PatternOperands (commands e)

-- The tree with the root x looks like a numbered tree of the pattern from each of its positions.
pub record Local (e : Expr) (x : ℕ) (xs : Trees ℕ) : Type 0 where
  pub rank : width xs ≡ rank_at (named e) x
  pub ranks : Ranks (rank_at (named e)) xs
  pub root_linked : Link (numbered e) root x
  pub children_linked : Fit (λ b i y. Link (numbered e) (child b i) y) (λ i y. Link (numbered e) (child x i) y) xs

abbrev pub Locality : Type 0
Locality = (e : Expr) → Operands e → (x : ℕ) (xs : Trees ℕ) → In (numbered e) x xs ↔ Local e x xs
