-- Where the labels of a fine expression lie: a label that has children is a node, and so in the expression's range.
-- The ranges of the two parts of a sum or a product, and of the parts of a node, are disjoint, so a node belongs to
-- one part only. By induction on the expression. Assumes nothing.
use Rattle.std.proofs.Common.{◌≡◌, ℕ, ◌<◌, ◌≤◌, subst, ⊎_elim, arith}
use Rattle.pattern.specs.Expressions.{Expr, leaf, node, sum, product, closure, Parts, no_parts, ◌▸◌, count}
use Rattle.links.proofs.Rules.{First, FirstPart, Follow, FollowParts, Fine, FineParts}

-- Where x has children it is in the range.
abbrev pub Within : (ℕ → ℕ) → ℕ → ℕ → ℕ → Type 0
Within rank lo hi x = 0 < rank x → (lo ≤ x) × (x < hi)

-- the i-th part is one of the parts
pub first_part_index : (ps : Parts) (i x : ℕ) → FirstPart ps i x → i ≤ count ps
first_part_index no_parts i x h = absurd h
first_part_index (ps ▸ e) i x h =
    ⊎_elim (λ p. omega (arith, p.0)) (λ p. omega (arith, first_part_index ps i x p)) h

childless : (rank : ℕ → ℕ) (lo hi c x : ℕ) → rank c ≡ 0 → x ≡ c → Within rank lo hi x
childless rank lo hi c x z e r = absurd (omega (arith, subst (λ y. 0 < rank y) e r))

module _ (rank : ℕ → ℕ) (n : ℕ) where
  mutual
    pub fine_rises : (e : Expr) (lo hi : ℕ) → Fine rank n lo hi e → lo ≤ hi
    fine_rises (leaf c) lo hi f = f.1
    fine_rises (node b points ps) lo hi f = omega (arith, fine_parts_rise ps lo b f.0, f.1)
    fine_rises (sum a b) lo hi f = omega (arith, fine_rises a lo f.0 f.1, fine_rises b f.0 hi f.2)
    fine_rises (product c a b) lo hi f = omega (arith, fine_rises a lo f.0 f.1, fine_rises b f.0 hi f.2)
    fine_rises (closure c a) lo hi f = fine_rises a lo hi f.0

    pub fine_parts_rise : (ps : Parts) (lo hi : ℕ) → FineParts rank n lo hi ps → lo ≤ hi
    fine_parts_rise no_parts lo hi f = f
    fine_parts_rise (ps ▸ e) lo hi f = omega (arith, fine_parts_rise ps lo f.0 f.1, fine_rises e f.0 hi f.2)

  mutual
    pub first_within : (e : Expr) (lo hi : ℕ) → Fine rank n lo hi e → (x : ℕ) → First e x → Within rank lo hi x
    first_within (leaf c) lo hi f x h r = childless rank lo hi c x f.0.1 h r
    first_within (node b points ps) lo hi f x h r = omega (arith, fine_parts_rise ps lo b f.0)
    first_within (sum a b) lo hi f x h r =
        ⊎_elim (λ p. omega (arith, fine_rises b f.0 hi f.2, first_within a lo f.0 f.1 x p r))
        (λ p. omega (arith, fine_rises a lo f.0 f.1, first_within b f.0 hi f.2 x p r)) h
    first_within (product c a b) lo hi f x h r =
        ⊎_elim (λ p. omega (arith, fine_rises b f.0 hi f.2, first_within a lo f.0 f.1 x p.0 r))
        (λ p. omega (arith, fine_rises a lo f.0 f.1, first_within b f.0 hi f.2 x p.1 r)) h
    first_within (closure c a) lo hi f x h r =
        ⊎_elim (λ p. first_within a lo hi f.0 x p r) (λ e. childless rank lo hi c x f.1.1 e r) h

    pub first_part_within : (ps : Parts) (lo hi : ℕ) → FineParts rank n lo hi ps → (i x : ℕ) → FirstPart ps i x → Within rank lo hi x
    first_part_within no_parts lo hi f i x h r = absurd h
    first_part_within (ps ▸ e) lo hi f i x h r =
        ⊎_elim (λ p. omega (arith, fine_parts_rise ps lo f.0 f.1, first_within e f.0 hi f.2 x p.1 r))
        (λ p. omega (arith, fine_rises e f.0 hi f.2, first_part_within ps lo f.0 f.1 i x p r)) h

  mutual
    pub follow_from : (e : Expr) (lo hi : ℕ) → Fine rank n lo hi e → (y i x : ℕ) → Follow e y i x → (lo ≤ y) × (y < hi)
    follow_from (leaf c) lo hi f y i x h = absurd h
    follow_from (node b points ps) lo hi f y i x h =
        ⊎_elim (λ p. omega (arith, fine_parts_rise ps lo b f.0, p.0)) (λ p. omega (arith, follow_parts_from ps lo b f.0 y i x p)) h
    follow_from (sum a b) lo hi f y i x h =
        ⊎_elim (λ p. omega (arith, fine_rises b f.0 hi f.2, follow_from a lo f.0 f.1 y i x p))
        (λ p. omega (arith, fine_rises a lo f.0 f.1, follow_from b f.0 hi f.2 y i x p)) h
    follow_from (product c a b) lo hi f y i x h =
        ⊎_elim
        (⊎_elim (λ p. omega (arith, fine_rises b f.0 hi f.2, follow_from a lo f.0 f.1 y i x p.0))
        (λ p. omega (arith, fine_rises b f.0 hi f.2, follow_from a lo f.0 f.1 y i c p.0)))
        (λ p. omega (arith, fine_rises a lo f.0 f.1, follow_from b f.0 hi f.2 y i x p.1)) h
    follow_from (closure c a) lo hi f y i x h =
        ⊎_elim (λ p. follow_from a lo hi f.0 y i x p) (λ p. follow_from a lo hi f.0 y i c p.0) h

    pub follow_parts_from : (ps : Parts) (lo hi : ℕ) → FineParts rank n lo hi ps → (y i x : ℕ) → FollowParts ps y i x → (lo ≤ y) × (y < hi)
    follow_parts_from no_parts lo hi f y i x h = absurd h
    follow_parts_from (ps ▸ e) lo hi f y i x h =
        ⊎_elim (λ p. omega (arith, fine_rises e f.0 hi f.2, follow_parts_from ps lo f.0 f.1 y i x p))
        (λ p. omega (arith, fine_parts_rise ps lo f.0 f.1, follow_from e f.0 hi f.2 y i x p)) h

  mutual
    pub follow_within : (e : Expr) (lo hi : ℕ) → Fine rank n lo hi e → (y i x : ℕ) → Follow e y i x → Within rank lo hi x
    follow_within (leaf c) lo hi f y i x h r = absurd h
    follow_within (node b points ps) lo hi f y i x h r =
        ⊎_elim (λ p. omega (arith, first_part_within ps lo b f.0 i x p.1 r)) (λ p. omega (arith, follow_parts_within ps lo b f.0 y i x p r)) h
    follow_within (sum a b) lo hi f y i x h r =
        ⊎_elim (λ p. omega (arith, fine_rises b f.0 hi f.2, follow_within a lo f.0 f.1 y i x p r))
        (λ p. omega (arith, fine_rises a lo f.0 f.1, follow_within b f.0 hi f.2 y i x p r)) h
    follow_within (product c a b) lo hi f y i x h r =
        ⊎_elim
        (⊎_elim (λ p. omega (arith, fine_rises b f.0 hi f.2, follow_within a lo f.0 f.1 y i x p.0 r))
        (λ p. omega (arith, fine_rises a lo f.0 f.1, first_within b f.0 hi f.2 x p.1 r)))
        (λ p. omega (arith, fine_rises a lo f.0 f.1, follow_within b f.0 hi f.2 y i x p.1 r)) h
    follow_within (closure c a) lo hi f y i x h r =
        ⊎_elim (λ p. follow_within a lo hi f.0 y i x p r) (λ p. first_within a lo hi f.0 x p.1 r) h

    pub follow_parts_within : (ps : Parts) (lo hi : ℕ) → FineParts rank n lo hi ps → (y i x : ℕ) → FollowParts ps y i x → Within rank lo hi x
    follow_parts_within no_parts lo hi f y i x h r = absurd h
    follow_parts_within (ps ▸ e) lo hi f y i x h r =
        ⊎_elim (λ p. omega (arith, fine_rises e f.0 hi f.2, follow_parts_within ps lo f.0 f.1 y i x p r))
        (λ p. omega (arith, fine_parts_rise ps lo f.0 f.1, follow_within e f.0 hi f.2 y i x p r)) h
