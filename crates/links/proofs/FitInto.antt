-- Trees that fit one set of rules, moved to another, and trees that are cut at a constant c. The rules G are those of a
-- part, whose labels with children are in a range. Trees that fit F fit G where both say the same in that range. Where
-- F is there G with the roots T in the stead of c, they come of trees that fit G, with trees of a set Q put at c.
-- By induction on the trees. Assumes nothing.
use Rattle.std.proofs.Common.{◌≡◌, ℕ, suc, ◌<◌, ◌≤◌, sym, refl, ap, ◌∙◌, inl, inr, ⊎_elim, arith}
use Rattle.links.specs.Trees.{Trees, none, more, width}
use Rattle.links.specs.Language.{Language, Put}
use Rattle.links.specs.Locality.{Fit, Ranks}
use Rattle.links.proofs.Rules.{Cut}
use Rattle.links.proofs.Labels.{Within}

module _ (rank : ℕ → ℕ) (lo hi : ℕ) (F G : ℕ → ℕ → ℕ → Type 0)
    (within : (y i x : ℕ) → G y i x → Within rank lo hi x)
    (same : (y i x : ℕ) → lo ≤ y → y < hi → F y i x → G y i x) where
  pub fit_into : (ts : Trees ℕ) (P S : ℕ → ℕ → Type 0) → ((i x : ℕ) → 0 < i → i ≤ width ts → P i x → S i x) → ((i x : ℕ) → S i x → Within rank lo hi x) → Ranks rank ts → Fit F P ts → Fit G S ts
  fit_into none P S into inside r h = tt
  fit_into (more ts x xs) P S into inside r h =
      let here : S (suc (width ts)) x = into (suc (width ts)) x (omega arith) (omega arith) h.1 in (
        fit_into ts P S (λ i z p q. into i z p (omega arith)) inside r.0 h.0,
        here,
        fit_into xs (F x) (G x) (λ i z p q. let m = inside (suc (width ts)) x here (omega (arith, r.1)) in same x i z m.0 m.1) (within x) r.2 h.2,
      )

  -- the trees below a root
  pub fit_below : (x : ℕ) (xs : Trees ℕ) → Within rank lo hi x → width xs ≡ rank x → Ranks rank xs → Fit F (F x) xs → Fit G (G x) xs
  fit_below x xs m w r h = fit_into xs (F x) (G x) (λ i z p q. same x i z (m (omega arith)).0 (m (omega arith)).1) (within x) r h

-- The trees come of trees with roots of S that fit G, with trees of Q put at c.
abbrev pub Comes : (ℕ → ℕ) → ℕ → (ℕ → ℕ → ℕ → Type 0) → Language → (ℕ → ℕ → Type 0) → Trees ℕ → Type 0
Comes rank c G Q S ts = (us : Trees ℕ) × Fit G S us × Ranks rank us × (width us ≡ width ts) × Put c Q us ts

module _ (rank : ℕ → ℕ) (c : ℕ) (G : ℕ → ℕ → ℕ → Type 0) (Q : Language) (S : ℕ → ℕ → Type 0) (ts : Trees ℕ) (x : ℕ) (xs : Trees ℕ) (left : Comes rank c G Q S ts) where
  -- one more tree, whose root stays
  one_kept : S (suc (width ts)) x → (x ≡ c → ⊥) → width xs ≡ rank x → Comes rank c G Q (G x) xs → Comes rank c G Q S (more ts x xs)
  one_kept s d w b = (
    more left.0 x b.0,
    (left.1, rw left.3 s, b.1),
    (left.2, b.3 ∙ w, b.2),
    ap suc left.3,
    (left.4, inr (λ m. d m.0, refl, b.4)),
  )

  -- one more tree, put at a leaf c
  one_put : rank c ≡ 0 → S (suc (width ts)) c → Q x xs → Comes rank c G Q S (more ts x xs)
  one_put z s q = (
    more left.0 c none,
    (left.1, rw left.3 s, tt),
    (left.2, sym z, tt),
    ap suc left.3,
    (left.4, inl ((refl, refl), q)),
  )

-- `made` may ask of what the trees below its root come, where that root is in the range.
module _ (rank : ℕ → ℕ) (lo hi c : ℕ) (constant : rank c ≡ 0) (F G : ℕ → ℕ → ℕ → Type 0) (T : ℕ → Type 0) (Q : Language)
    (within : (y i x : ℕ) → G y i x → Within rank lo hi x)
    (split : (y i x : ℕ) → lo ≤ y → y < hi → F y i x → Cut c (G y i) T x)
    (made : (x : ℕ) (xs : Trees ℕ) → T x → width xs ≡ rank x → Ranks rank xs → Fit F (F x) xs → (Within rank lo hi x → Comes rank c G Q (G x) xs) → Q x xs) where
  cut_fit : (ts : Trees ℕ) (P S : ℕ → ℕ → Type 0) → ((i x : ℕ) → 0 < i → i ≤ width ts → P i x → Cut c (S i) T x) → ((i x : ℕ) → S i x → Within rank lo hi x) → Ranks rank ts → Fit F P ts → Comes rank c G Q S ts
  cut_fit none P S into inside r h = (none, tt, tt, refl, tt)
  cut_fit (more ts x xs) P S into inside r h =
      let left = cut_fit ts P S (λ i z p q. into i z p (omega arith)) inside r.0 h.0 in
      let below : Within rank lo hi x → Comes rank c G Q (G x) xs = λ m. cut_fit xs (F x) (G x) (λ i z p q. let k = m (omega (arith, r.1)) in split x i z k.0 k.1) (within x) r.2 h.2 in
      ⊎_elim (λ p. one_kept rank c G Q S ts x xs left p.0 p.1 r.1 (below (inside (suc (width ts)) x p.0)))
      (λ p. one_put rank c G Q S ts x xs left constant p.0 (made x xs p.1 r.1 r.2 h.2 below))
      (into (suc (width ts)) x (omega arith) (omega arith) h.1)

  -- the trees below a root
  pub cut_below : (x : ℕ) (xs : Trees ℕ) → Within rank lo hi x → width xs ≡ rank x → Ranks rank xs → Fit F (F x) xs → Comes rank c G Q (G x) xs
  cut_below x xs m w r h = cut_fit xs (F x) (G x) (λ i z p q. split x i z (m (omega arith)).0 (m (omega arith)).1) (within x) r h
