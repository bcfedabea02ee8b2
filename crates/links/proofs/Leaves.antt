-- In the trees of a fine expression every root with nothing below it is a constant: a node has some parts, and a
-- product or a closure puts whole trees in the stead of leaves. By induction on the expression. Assumes nothing.
use Rattle.std.proofs.Common.{◌≡◌, ℕ, zero, suc, ◌<◌, sym, refl, subst, inl, inr, arith}
use Rattle.pattern.specs.Expressions.{Expr, leaf, node, sum, product, closure, Parts, no_parts, ◌▸◌, count}
use Rattle.links.specs.Trees.{Trees, none, more}
use Rattle.links.specs.Language.{Language, Leaf, Replaced, Put, Product, Step, In, Below}
use Rattle.links.proofs.Rules.{Constant, Fine, FineParts}

-- Every root with nothing below it is one of K.
abbrev pub Leaves : (ℕ → Type 0) → Trees ℕ → Type 0
Leaves K none = Unit {0}
Leaves K (more ts x xs) = Leaves K ts × (xs ≡ none → K x) × Leaves K xs

abbrev pub TreeLeaves : (ℕ → Type 0) → Language
TreeLeaves K x xs = (xs ≡ none → K x) × Leaves K xs

module _ (K : ℕ → Type 0) (c : ℕ) where
  leaf_ends : K c → (x : ℕ) (xs : Trees ℕ) → Leaf c x xs → TreeLeaves K x xs
  leaf_ends k x xs l = (λ _. subst K (sym l.0) k, subst (Leaves K) (sym l.1) tt)

  module _ (Q : Language) (ends : (x : ℕ) (xs : Trees ℕ) → Q x xs → TreeLeaves K x xs) where
    put_none : (us xs : Trees ℕ) → Put c Q us xs → xs ≡ none → us ≡ none
    put_none none none p h = refl
    put_none none (more ts x xs) p h = refl
    put_none (more vs u us) none p h = absurd p
    put_none (more vs u us) (more ts x xs) p h = cc

    replaced_ends : (u : ℕ) (us : Trees ℕ) (x : ℕ) (xs : Trees ℕ) → (us ≡ none → K u) → (Put c Q us xs → Leaves K xs) → Replaced c Q u us x xs (Put c Q us xs) → TreeLeaves K x xs
    replaced_ends u us x xs k below (inl r) = ends x xs r.1
    replaced_ends u us x xs k below (inr r) = (λ h. subst K (sym r.1) (k (put_none us xs r.2 h)), below r.2)

    put_leaves : (us xs : Trees ℕ) → Leaves K us → Put c Q us xs → Leaves K xs
    put_leaves none none e p = tt
    put_leaves none (more ts x xs) e p = absurd p
    put_leaves (more vs u us) none e p = tt
    put_leaves (more vs u us) (more ts x xs) e p =
        let here = replaced_ends u us x xs e.1 (put_leaves us xs e.2) p.1 in
        (put_leaves vs ts e.0 p.0, here.0, here.1)

    product_ends : (P : Language) → ((x : ℕ) (xs : Trees ℕ) → P x xs → TreeLeaves K x xs) → (x : ℕ) (xs : Trees ℕ) → Product c P Q x xs → TreeLeaves K x xs
    product_ends P first x xs p =
        let e = first p.0 p.1 p.2 in
        replaced_ends p.0 p.1 x xs e.0 (put_leaves p.1 xs e.1) p.3

  step_ends : K c → (P : Language) → ((x : ℕ) (xs : Trees ℕ) → P x xs → TreeLeaves K x xs) → (n : ℕ) (x : ℕ) (xs : Trees ℕ) → Step c P n x xs → TreeLeaves K x xs
  step_ends k P ends zero x xs s = leaf_ends k x xs s
  step_ends k P ends (suc n) x xs (inl s) = step_ends k P ends n x xs s
  step_ends k P ends (suc n) x xs (inr p) = product_ends (Step c P n) (step_ends k P ends n) P ends x xs p

some_below : (ps : Parts) (xs : Trees ℕ) → 0 < count ps → Below ps xs → xs ≡ none → ⊥
some_below no_parts xs h b k = absurd (omega (arith, h))
some_below (ps ▸ e) none h b k = b
some_below (ps ▸ e) (more ts x xs) h b k = let z : ◌≡◌ {A = ℕ} 0 1 = cc in omega arith

module _ (rank : ℕ → ℕ) (n : ℕ) where
  mutual
    pub in_ends : (m : Expr) (lo hi : ℕ) → Fine rank n lo hi m → (x : ℕ) (xs : Trees ℕ) → In m x xs → TreeLeaves (Constant rank n) x xs
    in_ends (leaf c) lo hi fine x xs i = leaf_ends (Constant rank n) c fine.0 x xs i
    in_ends (node c points ps) lo hi fine x xs i = (λ h. absurd (some_below ps xs fine.3 i.1 h), below_leaves ps lo c fine.0 x xs i.1)
    in_ends (sum a b) lo hi fine x xs (inl i) = in_ends a lo fine.0 fine.1 x xs i
    in_ends (sum a b) lo hi fine x xs (inr i) = in_ends b fine.0 hi fine.2 x xs i
    in_ends (product c a b) lo hi fine x xs i =
        product_ends (Constant rank n) c (In b) (in_ends b fine.0 hi fine.2) (In a) (in_ends a lo fine.0 fine.1) x xs i
    in_ends (closure c a) lo hi fine x xs i = step_ends (Constant rank n) c fine.1 (In a) (in_ends a lo hi fine.0) i.0 x xs i.1

    below_leaves : (ps : Parts) (lo hi : ℕ) → FineParts rank n lo hi ps → (x : ℕ) (xs : Trees ℕ) → Below ps xs → Leaves (Constant rank n) xs
    below_leaves no_parts lo hi fine r none b = tt
    below_leaves no_parts lo hi fine r (more ts x xs) b = absurd b
    below_leaves (ps ▸ e) lo hi fine r none b = tt
    below_leaves (ps ▸ e) lo hi fine r (more ts x xs) b =
        let here = in_ends e fine.0 hi fine.2 x xs b.1 in
        (below_leaves ps lo fine.0 fine.1 r ts b.0, here.0, here.1)
