-- No expression is empty, and what its rules allow occurs: each label of First is the root of a tree, and each of
-- Follow stands in its slot in some tree. By induction on the expression; in a product and a closure one and the
-- same tree is put at every leaf, chosen so that the label shows. Assumes nothing.
use Rattle.std.proofs.Common.{◌≡◌, ℕ, suc, ◌⊎◌, sym, refl, ap, ◌∙◌, subst, inl, inr, ⊎_elim}
use Rattle.pattern.specs.Expressions.{Expr, leaf, node, sum, product, closure, Parts, no_parts, ◌▸◌}
use Rattle.links.specs.Trees.{Trees, none, more}
use Rattle.links.specs.Language.{Language, Product, Step, In, Below}
use Rattle.links.specs.Locality.{Ranks}
use Rattle.links.specs.Slots.{child, RootOf, ChildIn, Link}
use Rattle.links.proofs.Rules.{First, FirstPart, Follow, FollowParts, Cut, Fine, FineParts}
use Rattle.links.proofs.Puts.{product_some, part_step, child_behind, puts_root, puts_child, within_root, within_child}
use Rattle.links.proofs.Fitting.{in_ranked, below_width}

-- any tree
abbrev Any : Language
Any x xs = Unit {0}

-- no expression is empty: `Denotes` of specs/Readings.antt
mutual
  pub inhabited : (e : Expr) → (x : ℕ) × (xs : Trees ℕ) × In e x xs
  inhabited (leaf c) = (c, none, (refl, refl))
  inhabited (node b points ps) = let w = inhabited_parts ps in (b, w.0, (refl, w.1))
  inhabited (sum a b) = let w = inhabited a in (w.0, w.1, inl w.2)
  inhabited (product c a b) =
      let u = inhabited a in
      let v = inhabited b in
      let w = product_some c (In b) Any v.0 v.1 v.2 tt (In a) u.0 u.1 u.2 in
      (w.0, w.1, w.2)
  inhabited (closure c a) = (c, none, (0, (refl, refl)))

  pub inhabited_parts : (ps : Parts) → (ts : Trees ℕ) × Below ps ts
  inhabited_parts no_parts = (none, tt)
  inhabited_parts (ps ▸ e) = let u = inhabited_parts ps in let w = inhabited e in (more u.0 w.0 w.1, (u.1, w.2))

-- Where a tree with the root v is put for c, the label x is found again as y.
abbrev Becomes : ℕ → ℕ → ℕ → ℕ → Type 0
Becomes c v x y = ((x ≡ c → ⊥) → y ≡ x) × (x ≡ c → y ≡ v)

becomes_new : (c v : ℕ) → Becomes c v c v
becomes_new c v = ((λ ne. absurd (ne refl)), (λ e. refl))

-- A label that is cut at c comes of one of the set S, if the right tree is put for c.
cut_source : (c : ℕ) (S : ℕ → Type 0) (b : Expr) → ((x : ℕ) → First b x → (xs : Trees ℕ) × In b x xs) → (y : ℕ) → Cut c S (First b) y → (x : ℕ) × S x × (v : ℕ) × (ws : Trees ℕ) × In b v ws × Becomes c v x y
cut_source c S b first y h =
    ⊎_elim (λ w. let v = inhabited b in (y, w.0, v.0, v.1, v.2, ((λ ne. refl), (λ e. absurd (w.1 e)))))
    (λ w. let v = first y w.1 in (c, w.0, y, v.0, v.1, becomes_new c y))
    h

-- One tree at every leaf c of a tree of P, and what then stands where.
module _ (rank : ℕ → ℕ) (c : ℕ) (flat : rank c ≡ 0) (P Q : Language) (u : ℕ) (us : Trees ℕ) (p : P u us) (ranks : Ranks rank (more none u us)) (v : ℕ) (ws : Trees ℕ) (q : Q v ws) where
  product_root : (y : ℕ) → Becomes c v u y → (xs : Trees ℕ) × Product c P Q y xs
  product_root y t =
      let w = product_some c Q (λ z zs. z ≡ v) v ws q refl P u us p in
      let e : y ≡ w.0 =
      ⊎_elim (λ k. k.1) (λ k. absurd k)
      (puts_root rank c flat (λ z zs. z ≡ v) u y t.0 (λ z zs k s. t.1 k ∙ sym s) 1 w.3 ranks (inl (refl, refl))) in
      (w.1, subst (λ z. Product c P Q z w.1) (sym e) w.2)

  product_child : (b i x y : ℕ) → Becomes c v x y → ChildIn b i x (more none u us) → (z : ℕ) × (zs : Trees ℕ) × Product c P Q z zs × ChildIn b i y (more none z zs)
  product_child b i x y t h =
      let w = product_some c Q (λ z zs. z ≡ v) v ws q refl P u us p in
      (w.0, w.1, w.2, puts_child rank c flat (λ z zs. z ≡ v) x y t.0 (λ z zs k s. t.1 k ∙ sym s) b i w.3 ranks h)

  product_within : (b i x : ℕ) → ChildIn b i x (more none v ws) → (u ≡ c) ⊎ ((d : ℕ) × (j : ℕ) × ChildIn d j c (more none u us)) → (z : ℕ) × (zs : Trees ℕ) × Product c P Q z zs × ChildIn b i x (more none z zs)
  product_within b i x h there =
      let S : Language = λ z zs. ChildIn b i x (more none z zs) in
      let w = product_some c Q S v ws q h P u us p in (
        w.0,
        w.1,
        w.2,
        ⊎_elim (λ e. within_root rank c flat S b i x (λ z zs s. s) 1 w.3 ranks (inl (refl, sym e)))
            (λ k. within_child rank c flat S b i x (λ z zs s. s) k.0 k.1 w.3 ranks k.2)
            there,
      )

module _ (rank : ℕ → ℕ) (n : ℕ) where
  pub first_in : (e : Expr) (lo hi : ℕ) → Fine rank n lo hi e → (x : ℕ) → First e x → (xs : Trees ℕ) × In e x xs
  first_in (leaf c) lo hi f x h = (none, (h, refl))
  first_in (node b points ps) lo hi f x h = let w = inhabited_parts ps in (w.0, (h, w.1))
  first_in (sum a b) lo hi f x h =
      ⊎_elim (λ k. let w = first_in a lo f.0 f.1 x k in (w.0, inl w.1)) (λ k. let w = first_in b f.0 hi f.2 x k in (w.0, inr w.1)) h
  first_in (product c a b) lo hi f x h =
      let s = cut_source c (First a) b (first_in b f.0 hi f.2) x h in
      let w = first_in a lo f.0 f.1 s.0 s.1 in
      product_root rank c f.3.1 (In a) (In b) s.0 w.0 w.1 (in_ranked rank n a lo f.0 f.1 s.0 w.0 w.1) s.2 s.3 s.4 x s.5
  first_in (closure c a) lo hi f x h =
      ⊎_elim (λ k. let w = first_in a lo hi f.0 x k in (w.0, (1, part_step c (In a) x w.0 w.1))) (λ e. (none, (0, (e, refl)))) h

  pub first_part_in : (ps : Parts) (lo hi : ℕ) → FineParts rank n lo hi ps → (i x : ℕ) → FirstPart ps i x → (ts : Trees ℕ) × Below ps ts × RootOf i x ts
  first_part_in no_parts lo hi f i x h = absurd h
  first_part_in (ps ▸ e) lo hi f i x h =
      ⊎_elim
      (λ k.
      let u = inhabited_parts ps in
      let w = first_in e f.0 hi f.2 x k.1 in
      (more u.0 x w.0, (u.1, w.1), inl (k.0 ∙ ap suc (sym (below_width ps u.0 u.1)), refl)))
      (λ k.
      let u = first_part_in ps lo f.0 f.1 i x k in
      let w = inhabited e in
      (more u.0 w.0 w.1, (u.1, w.2), inr u.2))
      h

  mutual
    pub follow_in : (e : Expr) (lo hi : ℕ) → Fine rank n lo hi e → (b i x : ℕ) → Follow e b i x → Link e (child b i) x
    follow_in (leaf c) lo hi f b i x h = absurd h
    follow_in (node d points ps) lo hi f b i x h =
        ⊎_elim (λ k. let w = first_part_in ps lo d f.0 i x k.1 in (d, w.0, (refl, w.1), inl (sym k.0, w.2)))
        (λ k. let w = follow_parts_in ps lo d f.0 b i x k in (d, w.0, (refl, w.1), inr (inl w.2)))
        h
    follow_in (sum a d) lo hi f b i x h =
        ⊎_elim (λ k. let w = follow_in a lo f.0 f.1 b i x k in (w.0, w.1, inl w.2, w.3))
        (λ k. let w = follow_in d f.0 hi f.2 b i x k in (w.0, w.1, inr w.2, w.3))
        h
    follow_in (product c a d) lo hi f b i x h =
        ⊎_elim
        (λ k.
        let s = cut_source c (Follow a b i) d (first_in d f.0 hi f.2) x k in
        let w = follow_in a lo f.0 f.1 b i s.0 s.1 in
        product_child rank c f.3.1 (In a) (In d) w.0 w.1 w.2 (in_ranked rank n a lo f.0 f.1 w.0 w.1 w.2) s.2 s.3 s.4 b i s.0 x s.5 w.3)
        (λ k.
        let v = follow_in d f.0 hi f.2 b i x k.1 in
        let u : (y : ℕ) × (ys : Trees ℕ) × In a y ys × ((y ≡ c) ⊎ ((z : ℕ) × (j : ℕ) × ChildIn z j c (more none y ys))) =
        ⊎_elim (λ r. let w = first_in a lo f.0 f.1 c r in (c, w.0, w.1, inl refl))
        (λ r. let w = follow_in a lo f.0 f.1 r.0 r.1 c r.2 in (w.0, w.1, w.2, inr (r.0, r.1, w.3)))
        k.0 in
        product_within rank c f.3.1 (In a) (In d) u.0 u.1 u.2 (in_ranked rank n a lo f.0 f.1 u.0 u.1 u.2) v.0 v.1 v.2 b i x v.3 u.3)
        h
    follow_in (closure c a) lo hi f b i x h =
        ⊎_elim
        (λ k. let w = follow_in a lo hi f.0 b i x k in (w.0, w.1, (1, part_step c (In a) w.0 w.1 w.2), w.3))
        (λ k.
        let v = first_in a lo hi f.0 x k.1 in
        let u = follow_in a lo hi f.0 b i c k.0 in
        let ranks = in_ranked rank n a lo hi f.0 u.0 u.1 u.2 in
        let step = part_step c (In a) x v.0 v.1 in
        let w = product_child rank c f.1.1 (In a) (Step c (In a) 1) u.0 u.1 u.2 ranks x v.0 step b i c x (becomes_new c x) u.3 in
        (w.0, w.1, (2, inr w.2), w.3))
        h

    pub follow_parts_in : (ps : Parts) (lo hi : ℕ) → FineParts rank n lo hi ps → (b i x : ℕ) → FollowParts ps b i x → (ts : Trees ℕ) × Below ps ts × ChildIn b i x ts
    follow_parts_in no_parts lo hi f b i x h = absurd h
    follow_parts_in (ps ▸ e) lo hi f b i x h =
        ⊎_elim
        (λ k.
        let u = follow_parts_in ps lo f.0 f.1 b i x k in
        let w = inhabited e in
        (more u.0 w.0 w.1, (u.1, w.2), inr (inr u.2)))
        (λ k.
        let u = inhabited_parts ps in
        let w = follow_in e f.0 hi f.2 b i x k in
        (more u.0 w.0 w.1, (u.1, w.2), child_behind b i x u.0 w.0 w.1 w.3))
        h
