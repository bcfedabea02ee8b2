-- The trees of a fine expression with other labels are its trees with those labels, where different constants get
-- different labels: a leaf at which a product or a closure replaces is then the same leaf before and after.
-- By induction on the trees and on the expression, one direction after the other. Assumes nothing.
use Rattle.std.proofs.Common.{◌≡◌, ℕ, zero, suc, ◌↔◌, sym, refl, ap, subst, inl, inr}
use Rattle.pattern.specs.Expressions.{Expr, leaf, node, sum, product, closure, Parts, no_parts, ◌▸◌}
use Rattle.links.specs.Trees.{Trees, none, more, relabel}
use Rattle.links.specs.Language.{Language, Leaf, Replaced, Put, Product, Step, In, Below}
use Rattle.links.proofs.Leaves.{Leaves, TreeLeaves, in_ends}
use Rattle.links.proofs.Rules.{Constant, Fine, FineParts}

-- Another label at every leaf, node, product and closure.
abbrev mutual
  pub relabel_expr : (ℕ → ℕ) → Expr → Expr
  relabel_expr f (leaf c) = leaf (f c)
  relabel_expr f (node c points ps) = node (f c) points (relabel_parts f ps)
  relabel_expr f (sum a b) = sum (relabel_expr f a) (relabel_expr f b)
  relabel_expr f (product c a b) = product (f c) (relabel_expr f a) (relabel_expr f b)
  relabel_expr f (closure c a) = closure (f c) (relabel_expr f a)

  pub relabel_parts : (ℕ → ℕ) → Parts → Parts
  relabel_parts f no_parts = no_parts
  relabel_parts f (ps ▸ e) = relabel_parts f ps ▸ relabel_expr f e

-- The trees xs come of some trees of a set; and the tree with the root x comes of a tree of the language.
abbrev OfTrees : (ℕ → ℕ) → (Trees ℕ → Type 0) → Trees ℕ → Type 0
OfTrees f B xs = (bs : Trees ℕ) × B bs × (relabel f bs ≡ xs)

abbrev OfTree : (ℕ → ℕ) → Language → Language
OfTree f P x xs = (b : ℕ) × (bs : Trees ℕ) × P b bs × (f b ≡ x) × (relabel f bs ≡ xs)

relabel_none : (f : ℕ → ℕ) (xs : Trees ℕ) → relabel f xs ≡ none → xs ≡ none
relabel_none f none h = refl
relabel_none f (more ts x xs) h = cc

module _ (f : ℕ → ℕ) (K : ℕ → Type 0) (same : (b c : ℕ) → K b → K c → f b ≡ f c → b ≡ c) (c : ℕ) (k : K c) where
  leaf_back : (u : ℕ) (us : Trees ℕ) → (us ≡ none → K u) → Leaf (f c) (f u) (relabel f us) → Leaf c u us
  leaf_back u us e l = let ends = relabel_none f us l.1 in (same u c (e ends) k l.0, ends)

  leaf_on : (u : ℕ) (us : Trees ℕ) → Leaf c u us → Leaf (f c) (f u) (relabel f us)
  leaf_on u us l = (ap f l.0, ap (relabel f) l.1)

  module _ (Q R : Language) where
    -- from the labels to those before them
    module _ (back : (x : ℕ) (xs : Trees ℕ) → R x xs → OfTree f Q x xs) where
      replaced_back : (B : Trees ℕ → Type 0) (C : Type 0) (u : ℕ) (us : Trees ℕ) (x : ℕ) (xs : Trees ℕ) → (us ≡ none → K u) → (C → OfTrees f B xs) → Replaced (f c) R (f u) (relabel f us) x xs C → OfTree f (λ b bs. Replaced c Q u us b bs (B bs)) x xs
      replaced_back B C u us x xs e below (inl r) =
          let q = back x xs r.1 in
          (q.0, q.1, inl (leaf_back u us e r.0, q.2), q.3, q.4)
      replaced_back B C u us x xs e below (inr r) =
          let q = below r.2 in
          (u, q.0, inr ((λ l. r.0 (leaf_on u us l)), refl, q.1), sym r.1, q.2)

      put_back : (us xs : Trees ℕ) → Leaves K us → Put (f c) R (relabel f us) xs → OfTrees f (Put c Q us) xs
      put_back none none e p = (none, tt, refl)
      put_back none (more ts x xs) e p = absurd p
      put_back (more vs u us) none e p = absurd p
      put_back (more vs u us) (more ts x xs) e p =
          let front = put_back vs ts e.0 p.0 in
          let last = replaced_back (Put c Q us) (Put (f c) R (relabel f us) xs) u us x xs e.1 (put_back us xs e.2) p.1 in
          (more front.0 last.0 last.1, (front.1, last.2), cc (front.2, last.3, last.4))

      product_back : (P S : Language) → ((x : ℕ) (xs : Trees ℕ) → P x xs → TreeLeaves K x xs) → ((x : ℕ) (xs : Trees ℕ) → S x xs → OfTree f P x xs) → (x : ℕ) (xs : Trees ℕ) → Product (f c) S R x xs → OfTree f (Product c P Q) x xs
      product_back P S ends first x xs p =
          let q = first p.0 p.1 p.2 in
          let e = ends q.0 q.1 q.2 in
          let r = subst (λ y. Replaced (f c) R y p.1 x xs (Put (f c) R p.1 xs)) (sym q.3) p.3 in
          let r' = subst (λ ys. Replaced (f c) R (f q.0) ys x xs (Put (f c) R ys xs)) (sym q.4) r in
          let w = replaced_back (Put c Q q.1) (Put (f c) R (relabel f q.1) xs) q.0 q.1 x xs e.0 (put_back q.1 xs e.1) r' in
          (w.0, w.1, (q.0, q.1, q.2, w.2), w.3, w.4)

    -- and from those to the labels
    module _ (on : (b : ℕ) (bs : Trees ℕ) → Q b bs → R (f b) (relabel f bs)) where
      replaced_on : (B C : Type 0) (u : ℕ) (us : Trees ℕ) (b : ℕ) (bs : Trees ℕ) → (us ≡ none → K u) → (B → C) → Replaced c Q u us b bs B → Replaced (f c) R (f u) (relabel f us) (f b) (relabel f bs) C
      replaced_on B C u us b bs e below (inl r) = inl (leaf_on u us r.0, on b bs r.1)
      replaced_on B C u us b bs e below (inr r) = inr ((λ l. r.0 (leaf_back u us e l)), ap f r.1, below r.2)

      put_on : (us bs : Trees ℕ) → Leaves K us → Put c Q us bs → Put (f c) R (relabel f us) (relabel f bs)
      put_on none none e p = tt
      put_on none (more ts x xs) e p = absurd p
      put_on (more vs u us) none e p = absurd p
      put_on (more vs u us) (more ts b bs) e p =
          (put_on vs ts e.0 p.0, replaced_on (Put c Q us bs) (Put (f c) R (relabel f us) (relabel f bs)) u us b bs e.1 (put_on us bs e.2) p.1)

      product_on : (P S : Language) → ((x : ℕ) (xs : Trees ℕ) → P x xs → TreeLeaves K x xs) → ((b : ℕ) (bs : Trees ℕ) → P b bs → S (f b) (relabel f bs)) → (b : ℕ) (bs : Trees ℕ) → Product c P Q b bs → Product (f c) S R (f b) (relabel f bs)
      product_on P S ends first b bs p =
          let e = ends p.0 p.1 p.2 in
          let r = replaced_on (Put c Q p.1 bs) (Put (f c) R (relabel f p.1) (relabel f bs)) p.0 p.1 b bs e.0 (put_on p.1 bs e.1) p.3 in
          (f p.0, relabel f p.1, first p.0 p.1 p.2, r)

  module _ (P S : Language) (ends : (x : ℕ) (xs : Trees ℕ) → P x xs → TreeLeaves K x xs) where
    step_back : ((x : ℕ) (xs : Trees ℕ) → S x xs → OfTree f P x xs) → (n : ℕ) (x : ℕ) (xs : Trees ℕ) → Step (f c) S n x xs → OfTree f (Step c P n) x xs
    step_back first zero x xs l = (c, none, (refl, refl), sym l.0, sym l.1)
    step_back first (suc n) x xs (inl s) = let q = step_back first n x xs s in (q.0, q.1, inl q.2, q.3, q.4)
    step_back first (suc n) x xs (inr p) =
        let q = product_back (Step c P n) (Step (f c) S n) (step_back first n) P S ends first x xs p in
        (q.0, q.1, inr q.2, q.3, q.4)

    step_on : ((b : ℕ) (bs : Trees ℕ) → P b bs → S (f b) (relabel f bs)) → (n : ℕ) (b : ℕ) (bs : Trees ℕ) → Step c P n b bs → Step (f c) S n (f b) (relabel f bs)
    step_on first zero b bs l = leaf_on b bs l
    step_on first (suc n) b bs (inl s) = inl (step_on first n b bs s)
    step_on first (suc n) b bs (inr p) = inr (product_on (Step c P n) (Step (f c) S n) (step_on first n) P S ends first b bs p)

module _ (f : ℕ → ℕ) (rank : ℕ → ℕ) (n : ℕ) (same : (b c : ℕ) → Constant rank n b → Constant rank n c → f b ≡ f c → b ≡ c) where
  mutual
    in_back : (m : Expr) (lo hi : ℕ) → Fine rank n lo hi m → (x : ℕ) (xs : Trees ℕ) → In (relabel_expr f m) x xs → OfTree f (In m) x xs
    in_back (leaf c) lo hi fine x xs i = (c, none, (refl, refl), sym i.0, sym i.1)
    in_back (node c points ps) lo hi fine x xs i = let q = below_back ps lo c fine.0 x xs i.1 in (c, q.0, (refl, q.1), sym i.0, q.2)
    in_back (sum a b) lo hi fine x xs (inl i) = let q = in_back a lo fine.0 fine.1 x xs i in (q.0, q.1, inl q.2, q.3, q.4)
    in_back (sum a b) lo hi fine x xs (inr i) = let q = in_back b fine.0 hi fine.2 x xs i in (q.0, q.1, inr q.2, q.3, q.4)
    in_back (product c a b) lo hi fine x xs i =
        product_back f (Constant rank n) same c fine.3 (In b) (In (relabel_expr f b)) (in_back b fine.0 hi fine.2)
        (In a) (In (relabel_expr f a)) (in_ends rank n a lo fine.0 fine.1) (in_back a lo fine.0 fine.1) x xs i
    in_back (closure c a) lo hi fine x xs i =
        let q = step_back f (Constant rank n) same c fine.1 (In a) (In (relabel_expr f a)) (in_ends rank n a lo hi fine.0) (in_back a lo hi fine.0) i.0 x xs i.1 in
        (q.0, q.1, (i.0, q.2), q.3, q.4)

    below_back : (ps : Parts) (lo hi : ℕ) → FineParts rank n lo hi ps → (r : ℕ) (xs : Trees ℕ) → Below (relabel_parts f ps) xs → OfTrees f (Below ps) xs
    below_back no_parts lo hi fine r none b = (none, tt, refl)
    below_back no_parts lo hi fine r (more ts x xs) b = absurd b
    below_back (ps ▸ e) lo hi fine r none b = absurd b
    below_back (ps ▸ e) lo hi fine r (more ts x xs) b =
        let front = below_back ps lo fine.0 fine.1 r ts b.0 in
        let last = in_back e fine.0 hi fine.2 x xs b.1 in
        (more front.0 last.0 last.1, (front.1, last.2), cc (front.2, last.3, last.4))

  mutual
    in_on : (m : Expr) (lo hi : ℕ) → Fine rank n lo hi m → (b : ℕ) (bs : Trees ℕ) → In m b bs → In (relabel_expr f m) (f b) (relabel f bs)
    in_on (leaf c) lo hi fine b bs i = (ap f i.0, ap (relabel f) i.1)
    in_on (node c points ps) lo hi fine b bs i = (ap f i.0, below_on ps lo c fine.0 b bs i.1)
    in_on (sum a d) lo hi fine b bs (inl i) = inl (in_on a lo fine.0 fine.1 b bs i)
    in_on (sum a d) lo hi fine b bs (inr i) = inr (in_on d fine.0 hi fine.2 b bs i)
    in_on (product c a d) lo hi fine b bs i =
        product_on f (Constant rank n) same c fine.3 (In d) (In (relabel_expr f d)) (in_on d fine.0 hi fine.2)
        (In a) (In (relabel_expr f a)) (in_ends rank n a lo fine.0 fine.1) (in_on a lo fine.0 fine.1) b bs i
    in_on (closure c a) lo hi fine b bs i =
        (i.0, step_on f (Constant rank n) same c fine.1 (In a) (In (relabel_expr f a)) (in_ends rank n a lo hi fine.0) (in_on a lo hi fine.0) i.0 b bs i.1)

    below_on : (ps : Parts) (lo hi : ℕ) → FineParts rank n lo hi ps → (r : ℕ) (bs : Trees ℕ) → Below ps bs → Below (relabel_parts f ps) (relabel f bs)
    below_on no_parts lo hi fine r none i = tt
    below_on no_parts lo hi fine r (more ts b bs) i = absurd i
    below_on (ps ▸ e) lo hi fine r none i = absurd i
    below_on (ps ▸ e) lo hi fine r (more ts b bs) i = (below_on ps lo fine.0 fine.1 r ts i.0, in_on e fine.0 hi fine.2 b bs i.1)

  pub relabelled : (m : Expr) (lo hi : ℕ) → Fine rank n lo hi m → (x : ℕ) (xs : Trees ℕ) → In (relabel_expr f m) x xs ↔ ((b : ℕ) × (bs : Trees ℕ) × In m b bs × (f b ≡ x) × (relabel f bs ≡ xs))
  relabelled m lo hi fine x xs = (
    in_back m lo hi fine x xs,
    λ t. subst (λ ys. In (relabel_expr f m) x ys) t.4 (subst (λ y. In (relabel_expr f m) y (relabel f t.1)) t.3 (in_on m lo hi fine t.0 t.1 t.2)),
  )
