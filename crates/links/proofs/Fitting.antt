-- The trees of an expression have the right ranks, and fit its rules: the root is one of First, and each child one of
-- Follow. By induction on the expression; a root and what is below it are taken as one tree that stands alone. In a
-- product the rules of the first part turn into those of the whole wherever a leaf gives way. Assumes nothing.
use Rattle.std.proofs.Common.{◌≡◌, ℕ, zero, suc, sym, refl, ap, ◌∙◌, subst, inl, inr, ⊎_elim}
use Rattle.pattern.specs.Expressions.{Expr, leaf, node, sum, product, closure, Parts, no_parts, ◌▸◌, count}
use Rattle.links.specs.Trees.{Trees, none, more, width}
use Rattle.links.specs.Language.{Language, Leaf, Product, Step, In, Below}
use Rattle.links.specs.Locality.{Fit, Ranks}
use Rattle.links.proofs.Rules.{First, FirstPart, Follow, FollowParts, Reached, Fine, FineParts}
use Rattle.links.proofs.Puts.{Puts, empty, fresh, kept, puts_taken, puts_width, puts_ranks, leaf_alone}

-- every tree of the one set is in the other
abbrev pub Among : Language → Language → Type 0
Among P R = (x : ℕ) (xs : Trees ℕ) → P x xs → R x xs

-- all steps of a closure lie in a set that holds the leaf c, and the products of the part and a step that it holds
step_within : (c : ℕ) (P R : Language) → Among (Leaf c) R → ((n : ℕ) → Among (Step c P n) R → Among (Product c P (Step c P n)) R) → (n : ℕ) → Among (Step c P n) R
step_within c P R l f zero x xs s = l x xs s
step_within c P R l f (suc n) x xs s =
    let before = step_within c P R l f n in ⊎_elim (λ w. before x xs w) (λ w. f n before x xs w) s

-- a tree of a product, taken apart
product_puts : (c : ℕ) (P Q : Language) (x : ℕ) (xs : Trees ℕ) (h : Product c P Q x xs) → Puts c Q (more none h.0 h.1) (more none x xs)
product_puts c P Q x xs h = puts_taken c Q (more none h.0 h.1) (more none x xs) (tt, h.3)

-- as many trees as parts
pub below_width : (ps : Parts) (ts : Trees ℕ) → Below ps ts → width ts ≡ count ps
below_width no_parts none h = refl
below_width no_parts (more ts x xs) h = absurd h
below_width (ps ▸ e) none h = absurd h
below_width (ps ▸ e) (more ts x xs) h = ap suc (below_width ps ts h.0)

-- The trees with the right ranks.
abbrev pub Ranked : (ℕ → ℕ) → Language
Ranked rank x xs = Ranks rank (more none x xs)

module _ (rank : ℕ → ℕ) (n : ℕ) where
  leaf_ranked : (c : ℕ) → rank c ≡ 0 → Among (Leaf c) (Ranked rank)
  leaf_ranked c flat x xs h = rw (h.0, h.1) (tt, sym flat, tt)

  product_ranked : (c : ℕ) (P Q : Language) → rank c ≡ 0 → Among P (Ranked rank) → Among Q (Ranked rank) → Among (Product c P Q) (Ranked rank)
  product_ranked c P Q flat p q x xs h = puts_ranks rank c flat q (product_puts c P Q x xs h) (p h.0 h.1 h.2)

  mutual
    pub in_ranked : (e : Expr) (lo hi : ℕ) → Fine rank n lo hi e → Among (In e) (Ranked rank)
    in_ranked (leaf c) lo hi f x xs h = leaf_ranked c f.0.1 x xs h
    in_ranked (node b points ps) lo hi f x xs h =
        (tt, below_width ps xs h.1 ∙ sym f.2 ∙ ap rank (sym h.0), below_ranked ps lo b f.0 xs h.1)
    in_ranked (sum a b) lo hi f x xs h =
        ⊎_elim (λ w. in_ranked a lo f.0 f.1 x xs w) (λ w. in_ranked b f.0 hi f.2 x xs w) h
    in_ranked (product c a b) lo hi f x xs h =
        product_ranked c (In a) (In b) f.3.1 (in_ranked a lo f.0 f.1) (in_ranked b f.0 hi f.2) x xs h
    in_ranked (closure c a) lo hi f x xs h =
        step_within c (In a) (Ranked rank) (leaf_ranked c f.1.1)
        (λ k. product_ranked c (In a) (Step c (In a) k) f.1.1 (in_ranked a lo hi f.0))
        h.0 x xs h.1

    pub below_ranked : (ps : Parts) (lo hi : ℕ) → FineParts rank n lo hi ps → (ts : Trees ℕ) → Below ps ts → Ranks rank ts
    below_ranked no_parts lo hi f none h = tt
    below_ranked no_parts lo hi f (more ts x xs) h = absurd h
    below_ranked (ps ▸ e) lo hi f none h = absurd h
    below_ranked (ps ▸ e) lo hi f (more ts x xs) h =
        let w = in_ranked e f.0 hi f.2 x xs h.1 in (below_ranked ps lo f.0 f.1 ts h.0, w.1, w.2)

-- What fits some rules fits wider ones.
pub fit_mono : (F G : ℕ → ℕ → ℕ → Type 0) (P R : ℕ → ℕ → Type 0) → ((y i x : ℕ) → F y i x → G y i x) → ((i x : ℕ) → P i x → R i x) → (ts : Trees ℕ) → Fit F P ts → Fit G R ts
fit_mono F G P R f p none h = tt
fit_mono F G P R f p (more ts x xs) h =
    (fit_mono F G P R f p ts h.0, p (suc (width ts)) x h.1, fit_mono F G (F x) (G x) f (f x) xs h.2)

-- The roots of P turn into those of R: each that is not c stays, and where c is one, so is the root of each tree that is put there, which fits.
abbrev Turns : ℕ → Language → (ℕ → ℕ → ℕ → Type 0) → (ℕ → ℕ → Type 0) → (ℕ → ℕ → Type 0) → Type 0
Turns c S G P R = ((i x : ℕ) → P i x → (x ≡ c → ⊥) → R i x) × ((i x : ℕ) (xs : Trees ℕ) → P i c → S x xs → R i x × Fit G (G x) xs)

module _ (rank : ℕ → ℕ) (c : ℕ) (flat : rank c ≡ 0) (S : Language) (F G : ℕ → ℕ → ℕ → Type 0) (turns : (y : ℕ) → Turns c S G (F y) (G y)) where
  puts_fits : {us ts : Trees ℕ} (P R : ℕ → ℕ → Type 0) → Turns c S G P R → Puts c S us ts → Ranks rank us → Fit F P us → Fit G R ts
  puts_fits P R t empty r h = tt
  puts_fits P R t (fresh {vs = vs} {xs = xs} {x = x} p s) r h =
      let w = t.1 (suc (width vs)) x xs h.1 s in
      (puts_fits P R t p r.0 h.0, subst (λ k. R (suc k) x) (sym (puts_width p)) w.0, w.1)
  puts_fits P R t (kept {vs = vs} {us = us} {u = u} p n q) r h =
      let w = t.0 (suc (width vs)) u h.1 (λ e. n (leaf_alone rank c flat u us r.1 e)) in
      (puts_fits P R t p r.0 h.0, subst (λ k. R (suc k) u) (sym (puts_width p)) w, puts_fits (F u) (G u) (turns u) q r.2 h.2)

-- The trees that fit the rules of an expression.
abbrev pub Fitting : Expr → Language
Fitting e x xs = Fit (Follow e) (λ i. First e) (more none x xs)

module _ (rank : ℕ → ℕ) (c : ℕ) (flat : rank c ≡ 0) (a : Expr) (ranked : Among (In a) (Ranked rank)) (fits : Among (In a) (Fitting a)) where
  product_fits : (b : Expr) → Among (In b) (Fitting b) → Among (Product c (In a) (In b)) (Fitting (product c a b))
  product_fits b second x xs h =
      puts_fits rank c flat (In b) (Follow a) (Follow (product c a b))
      (λ y. ((λ i z w ne. inl (inl (w, ne))), (λ i z zs w k. let s = second z zs k in (inl (inr (w, s.1)), wider z zs (inr (y, i, w)) s.2))))
      (λ i. First a) (λ i. First (product c a b))
      ((λ i z w ne. inl (w, ne)), (λ i z zs w k. let s = second z zs k in (inr (w, s.1), wider z zs (inl w) s.2)))
      (product_puts c (In a) (In b) x xs h)
      (ranked h.0 h.1 h.2)
      (fits h.0 h.1 h.2)
    where
      wider : (z : ℕ) (zs : Trees ℕ) → Reached c a → Fit (Follow b) (Follow b z) zs → Fit (Follow (product c a b)) (Follow (product c a b) z) zs
      wider z zs reached w =
          fit_mono (Follow b) (Follow (product c a b)) (Follow b z) (Follow (product c a b) z) (λ y i t k. inr (reached, k)) (λ i t k. inr (reached, k)) zs w

  closure_fits : (S : Language) → Among S (Fitting (closure c a)) → Among (Product c (In a) S) (Fitting (closure c a))
  closure_fits S second x xs h =
      puts_fits rank c flat S (Follow a) (Follow (closure c a))
      (λ y. ((λ i z w ne. inl w), (λ i z zs w k. let s = second z zs k in (⊎_elim (λ r. inr (w, r)) (λ e. inl (subst (Follow a y i) (sym e) w)) s.1, s.2))))
      (λ i. First a) (λ i. First (closure c a))
      ((λ i z w ne. inl w), (λ i z zs w k. let s = second z zs k in (s.1, s.2)))
      (product_puts c (In a) S x xs h)
      (ranked h.0 h.1 h.2)
      (fits h.0 h.1 h.2)

module _ (rank : ℕ → ℕ) (n : ℕ) where
  mutual
    pub in_fitting : (e : Expr) (lo hi : ℕ) → Fine rank n lo hi e → Among (In e) (Fitting e)
    in_fitting (leaf c) lo hi f x xs h = rw h.1 (tt, h.0, tt)
    in_fitting (node b points ps) lo hi f x xs h =
        let G = Follow (node b points ps) in
        (tt, h.0, fit_mono (FollowParts ps) G (FirstPart ps) (G x) (λ y i z w. inr w) (λ i z w. inl (h.0, w)) xs (below_fits ps lo b f.0 xs h.1))
    in_fitting (sum a b) lo hi f x xs h =
        ⊎_elim
        (λ w. fit_mono (Follow a) (Follow (sum a b)) (λ i. First a) (λ i. First (sum a b)) (λ y i z k. inl k) (λ i z k. inl k) (more none x xs) (in_fitting a lo f.0 f.1 x xs w))
        (λ w. fit_mono (Follow b) (Follow (sum a b)) (λ i. First b) (λ i. First (sum a b)) (λ y i z k. inr k) (λ i z k. inr k) (more none x xs) (in_fitting b f.0 hi f.2 x xs w))
        h
    in_fitting (product c a b) lo hi f x xs h =
        product_fits rank c f.3.1 a (in_ranked rank n a lo f.0 f.1) (in_fitting a lo f.0 f.1) b (in_fitting b f.0 hi f.2) x xs h
    in_fitting (closure c a) lo hi f x xs h =
        step_within c (In a) (Fitting (closure c a)) (λ z zs w. rw w.1 (tt, inr w.0, tt))
        (λ k. closure_fits rank c f.1.1 a (in_ranked rank n a lo hi f.0) (in_fitting a lo hi f.0) (Step c (In a) k))
        h.0 x xs h.1

    pub below_fits : (ps : Parts) (lo hi : ℕ) → FineParts rank n lo hi ps → (ts : Trees ℕ) → Below ps ts → Fit (FollowParts ps) (FirstPart ps) ts
    below_fits no_parts lo hi f none h = tt
    below_fits no_parts lo hi f (more ts x xs) h = absurd h
    below_fits (ps ▸ e) lo hi f none h = absurd h
    below_fits (ps ▸ e) lo hi f (more ts x xs) h =
        let G = FollowParts (ps ▸ e) in
        let w = in_fitting e f.0 hi f.2 x xs h.1 in (
          fit_mono (FollowParts ps) G (FirstPart ps) (FirstPart (ps ▸ e)) (λ y i z k. inl k) (λ i z k. inr k) ts (below_fits ps lo f.0 f.1 ts h.0),
          inl (ap suc (below_width ps ts h.0), w.1),
          fit_mono (Follow e) G (Follow e x) (G x) (λ y i z k. inr k) (λ i z k. inr k) xs w.2,
        )

  -- the same of a root and what is below it
  pub in_ranks : (e : Expr) (lo hi : ℕ) → Fine rank n lo hi e → (x : ℕ) (xs : Trees ℕ) → In e x xs → (width xs ≡ rank x) × Ranks rank xs
  in_ranks e lo hi f x xs h = let w = in_ranked rank n e lo hi f x xs h in (w.1, w.2)

  pub in_first : (e : Expr) (lo hi : ℕ) → Fine rank n lo hi e → (x : ℕ) (xs : Trees ℕ) → In e x xs → First e x
  in_first e lo hi f x xs h = (in_fitting e lo hi f x xs h).1

  pub in_fits : (e : Expr) (lo hi : ℕ) → Fine rank n lo hi e → (x : ℕ) (xs : Trees ℕ) → In e x xs → Fit (Follow e) (Follow e x) xs
  in_fits e lo hi f x xs h = (in_fitting e lo hi f x xs h).2
