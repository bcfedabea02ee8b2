-- Which trees a pattern denotes. A tree is given by its root x and the trees xs below it. Labels are codes in a
-- pattern and position numbers in a numbered pattern; the rules are the same. Assumes nothing.
use Rattle.std.specs.Prelude.{◌≡◌, ℕ, zero, suc, ◌⊎◌}
use Rattle.pattern.specs.Expressions.{Expr, leaf, node, sum, product, closure, Parts, no_parts, ◌▸◌}
use Rattle.links.specs.Trees.{Trees, none, more}

-- A set of trees.
abbrev pub Language : Type 1
Language = ℕ → Trees ℕ → Type 0

-- The leaf c alone.
abbrev pub Leaf : ℕ → Language
Leaf c x xs = (x ≡ c) × (xs ≡ none)

-- The tree with the root x comes of the tree with the root u: where that is the leaf c, a tree of the set stands in
-- its stead; else the root stays, and what is below it is as `below` says.
abbrev pub Replaced : ℕ → Language → ℕ → Trees ℕ → ℕ → Trees ℕ → Type 0 → Type 0
Replaced c P u us x xs below = (Leaf c u us × P x xs) ⊎ ((Leaf c u us → ⊥) × (x ≡ u) × below)

-- Trees side by side, in each of which every leaf c is replaced by a tree of the set, chosen anew at each leaf.
abbrev pub Put : ℕ → Language → Trees ℕ → Trees ℕ → Type 0
Put c P none none = Unit {0}
Put c P none (more ts x xs) = ⊥
Put c P (more vs u us) none = ⊥
Put c P (more vs u us) (more ts x xs) = Put c P vs ts × Replaced c P u us x xs (Put c P us xs)

-- The product at c of two sets of trees.
abbrev pub Product : ℕ → Language → Language → Language
Product c P Q x xs = (u : ℕ) × (us : Trees ℕ) × P u us × Replaced c Q u us x xs (Put c Q us xs)

-- Step 0 of a closure at c is the leaf c; each further step is the one before it, together with the product at c of
-- the part and the step before.
abbrev pub Step : ℕ → Language → ℕ → Language
Step c P zero x xs = Leaf c x xs
Step c P (suc n) x xs = Step c P n x xs ⊎ Product c P (Step c P n) x xs

-- The trees of a pattern. Those of the parts of a node stand side by side.
abbrev mutual
  pub In : Expr → Language
  In (leaf c) x xs = Leaf c x xs
  In (node c points ps) x xs = (x ≡ c) × Below ps xs
  In (sum a b) x xs = In a x xs ⊎ In b x xs
  In (product c a b) x xs = Product c (In a) (In b) x xs
  In (closure c a) x xs = (n : ℕ) × Step c (In a) n x xs

  pub Below : Parts → Trees ℕ → Type 0
  Below no_parts none = Unit {0}
  Below no_parts (more ts x xs) = ⊥
  Below (ps ▸ e) none = ⊥
  Below (ps ▸ e) (more ts x xs) = Below ps ts × In e x xs
