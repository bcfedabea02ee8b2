-- The numbers of the slots of a fine expression say what Follow says of them. By induction on the expression: the
-- slots of a part have labels in its range, and so has what follows in it, so at the slots of one part the rules of
-- the other parts say nothing. Assumes nothing.
use Rattle.std.proofs.Common.{◌≡◌, ℕ, suc, ◌^◌, ◌≤◌, true, ◌||◌, ◌⊎◌, ◌↔◌, [], ◌∷◌, map, sym, refl, ap, subst, inl, inr, ⊎_elim, arith}
use mathlib.Core.List.Memᴰ
use mathlib.Core.List.{Memᴰ}
use lib.Bits.{bit_or}
use Rattle.std.proofs.lemmas.Bool.{cases_eq, or_cases, or_left, or_right}
use Rattle.pattern.specs.Expressions.{Expr, leaf, node, sum, product, closure, Parts, no_parts, ◌▸◌, count}
use Rattle.links.specs.Slots.{child, slots_under}
use Rattle.links.specs.Rows.{holds, cut, any_holds, kept, root_row, root_rows, child_rows, parts_rows}
use Rattle.links.proofs.Rules.{Cut, First, FirstPart, Follow, FollowParts, Reached, Fine, FineParts}
use Rattle.links.proofs.Labels.{first_part_index, fine_rises, fine_parts_rise, follow_from, follow_parts_from}
use Rattle.links.proofs.NumberedSlots.{slots_of, slots_of_parts}
use Rattle.links.proofs.Sayings.{Says, says_same, says_or, says_bit, says_cut, root_row_says}
use Rattle.links.proofs.SlotRows.{Say, Ranged, say_append, say_some, say_any, say_map, say_change, say_kept, say_both}

-- what follows stands in a slot of the expression
first_part_slot : (b : ℕ) (ps : Parts) (i x : ℕ) → FirstPart ps i x → Memᴰ (child b i) (slots_under b (count ps))
first_part_slot b no_parts i x h = absurd h
first_part_slot b (ps ▸ e) i x h =
    ⊎_elim (λ p. Memᴰ.append_right (slots_under b (count ps)) (Memᴰ.head (ap (child b) p.0)))
    (λ p. Memᴰ.append_left (child b (suc (count ps)) ∷ []) (first_part_slot b ps i x p)) h

mutual
  follow_slot : (e : Expr) (y i x : ℕ) → Follow e y i x → Memᴰ (child y i) (slots_of e)
  follow_slot (leaf c) y i x h = absurd h
  follow_slot (node b points ps) y i x h =
      ⊎_elim (λ p. Memᴰ.append_right (slots_of_parts ps) (Memᴰ.cast (ap (λ z. child z i) p.0) (first_part_slot b ps i x p.1)))
      (λ p. Memᴰ.append_left (slots_under b (count ps)) (follow_parts_slot ps y i x p)) h
  follow_slot (sum a b) y i x h =
      ⊎_elim (λ p. Memᴰ.append_left (slots_of b) (follow_slot a y i x p)) (λ p. Memᴰ.append_right (slots_of a) (follow_slot b y i x p)) h
  follow_slot (product c a b) y i x h =
      ⊎_elim
      (⊎_elim (λ p. Memᴰ.append_left (slots_of b) (follow_slot a y i x p.0)) (λ p. Memᴰ.append_left (slots_of b) (follow_slot a y i c p.0)))
      (λ p. Memᴰ.append_right (slots_of a) (follow_slot b y i x p.1)) h
  follow_slot (closure c a) y i x h = ⊎_elim (λ p. follow_slot a y i x p) (λ p. follow_slot a y i c p.0) h

  follow_parts_slot : (ps : Parts) (y i x : ℕ) → FollowParts ps y i x → Memᴰ (child y i) (slots_of_parts ps)
  follow_parts_slot no_parts y i x h = absurd h
  follow_parts_slot (ps ▸ e) y i x h =
      ⊎_elim (λ p. Memᴰ.append_left (slots_of e) (follow_parts_slot ps y i x p)) (λ p. Memᴰ.append_right (slots_of_parts ps) (follow_slot e y i x p)) h

-- the first k slots of b
abbrev Own : ℕ → ℕ → ℕ → ℕ → Type 0
Own b k y i = (y ≡ b) × (i ≤ k)

-- a node's own slots
own_rows_say : (b : ℕ) (ps : Parts) → Say (Own b (count ps)) (λ y i. FirstPart ps i) (slots_under b (count ps)) (root_rows ps)
own_rows_say b no_parts = tt
own_rows_say b (ps ▸ e) =
    say_append (Own b (suc (count ps))) (λ y i. FirstPart (ps ▸ e) i) (slots_under b (count ps)) (child b (suc (count ps)) ∷ []) (root_rows ps) (root_row e ∷ [])
    (say_change (Own b (count ps)) (Own b (suc (count ps))) (λ y i. FirstPart ps i) (λ y i. FirstPart (ps ▸ e) i)
    (λ y i own. ((own.0, omega arith), λ x. (inr, ⊎_elim (λ p. absurd (omega (arith, p.0))) (λ p. p))))
    (slots_under b (count ps)) (root_rows ps) (own_rows_say b ps)) (
      (refl, omega arith),
      says_same (root_row e) (First e) (FirstPart (ps ▸ e) (suc (count ps)))
          (λ x. ((λ h. inl (refl, h)), ⊎_elim (λ p. p.1) (λ p. absurd (omega (arith, first_part_index ps (suc (count ps)) x p)))))
          (root_row_says e),
      tt,
    )

-- one number of a closure's part
closure_says : (c : ℕ) (a : Expr) (y i row : ℕ) → Says row (Follow a y i) → Says (cut c (bit_or (root_row a) (2 ^ c)) row) (Follow (closure c a) y i)
closure_says c a y i row says =
    let roots = bit_or (root_row a) (2 ^ c) in
    let Instead : ℕ → Type 0 = λ x. First a x ⊎ (x ≡ c) in
    says_same (cut c roots row) (Cut c (Follow a y i) Instead) (Follow (closure c a) y i)
    (λ x. (
      ⊎_elim (λ p. inl p.0) (λ p. ⊎_elim (λ h. inr (p.0, h)) (λ e. inl (subst (Follow a y i) (sym e) p.0)) p.1),
      ⊎_elim (λ h. ⊎_elim (λ (e : x ≡ c). inr (subst (Follow a y i) e h, inr e)) (λ k. inl (h, k)) (cases_eq x c)) (λ p. inr (p.0, inl p.1)),
    ))
    (says_cut row roots (Follow a y i) Instead says (says_or (root_row a) (2 ^ c) (First a) (λ x. x ≡ c) (root_row_says a) (says_bit c)) c)

-- whether a product's second part is reached
reached_says : (R : ℕ → ℕ → Type 0) (c : ℕ) (a : Expr) → Say R (Follow a) (slots_of a) (child_rows a) → ((holds c (root_row a) || any_holds c (child_rows a)) ≡ true) ↔ Reached c a
reached_says R c a says =
    let here = holds c (root_row a) in
    let below = any_holds c (child_rows a) in (
      (λ h. ⊎_elim (λ k. inl ((root_row_says a c).0 k)) (λ k. inr (say_some R (Follow a) c (slots_of a) (child_rows a) says k)) (or_cases here below h)),
      ⊎_elim (λ h. or_left here below ((root_row_says a c).1 h))
          (λ p. or_right here below (say_any R (Follow a) c p.0 p.1 p.2 (slots_of a) (child_rows a) says (follow_slot a p.0 p.1 c p.2))),
    )

module _ (rank : ℕ → ℕ) (n : ℕ) where
  mutual
    pub child_rows_say : (e : Expr) (lo hi : ℕ) → Fine rank n lo hi e → Say (Ranged lo hi) (Follow e) (slots_of e) (child_rows e)
    child_rows_say (leaf c) lo hi f = tt
    child_rows_say (node b points ps) lo hi f =
        let rises = fine_parts_rise rank n ps lo b f.0 in
        say_append (Ranged lo hi) (Follow (node b points ps)) (slots_of_parts ps) (slots_under b (count ps)) (parts_rows ps) (root_rows ps)
        (say_change (Ranged lo b) (Ranged lo hi) (FollowParts ps) (Follow (node b points ps))
        (λ y i r. (omega (arith, f.1), λ x. (inr, ⊎_elim (λ p. absurd (omega (arith, p.0))) (λ p. p))))
        (slots_of_parts ps) (parts_rows ps) (parts_rows_say ps lo b f.0))
        (say_change (Own b (count ps)) (Ranged lo hi) (λ y i. FirstPart ps i) (Follow (node b points ps))
        (λ y i own. (
          omega (arith, f.1),
          λ x. (
            (λ h. inl (own.0, h)),
            ⊎_elim (λ p. p.1) (λ p. absurd (omega (arith, follow_parts_from rank n ps lo b f.0 y i x p))),
          ),
        ))
        (slots_under b (count ps)) (root_rows ps) (own_rows_say b ps))
    child_rows_say (sum a b) lo hi f =
        say_both lo f.0 hi (fine_rises rank n a lo f.0 f.1) (fine_rises rank n b f.0 hi f.2) (Follow a) (Follow b)
        (follow_from rank n a lo f.0 f.1) (follow_from rank n b f.0 hi f.2) (slots_of a) (slots_of b) (child_rows a) (child_rows b)
        (child_rows_say a lo f.0 f.1) (child_rows_say b f.0 hi f.2)
    child_rows_say (product c a b) lo hi f =
        let mid = f.0 in
        let first = child_rows_say a lo mid f.1 in
        let reached = holds c (root_row a) || any_holds c (child_rows a) in
        let A : ℕ → ℕ → ℕ → Type 0 = λ y i. Cut c (Follow a y i) (First b) in
        let B : ℕ → ℕ → ℕ → Type 0 = λ y i x. Reached c a × Follow b y i x in
        say_both lo mid hi (fine_rises rank n a lo mid f.1) (fine_rises rank n b mid hi f.2) A B
        (λ y i x. ⊎_elim (λ p. follow_from rank n a lo mid f.1 y i x p.0) (λ p. follow_from rank n a lo mid f.1 y i c p.0))
        (λ y i x p. follow_from rank n b mid hi f.2 y i x p.1)
        (slots_of a) (slots_of b) (map (cut c (root_row b)) (child_rows a)) (kept reached (child_rows b))
        (say_map (Ranged lo mid) (Ranged lo mid) (Follow a) A (cut c (root_row b))
        (λ y i row r says. (r, says_cut row (root_row b) (Follow a y i) (First b) says (root_row_says b) c)) (slots_of a) (child_rows a) first)
        (say_kept (Ranged mid hi) (Follow b) (Reached c a) reached (reached_says (Ranged lo mid) c a first) (slots_of b) (child_rows b) (child_rows_say b mid hi f.2))
    child_rows_say (closure c a) lo hi f =
        say_map (Ranged lo hi) (Ranged lo hi) (Follow a) (Follow (closure c a)) (cut c (bit_or (root_row a) (2 ^ c)))
        (λ y i row r says. (r, closure_says c a y i row says)) (slots_of a) (child_rows a) (child_rows_say a lo hi f.0)

    parts_rows_say : (ps : Parts) (lo hi : ℕ) → FineParts rank n lo hi ps → Say (Ranged lo hi) (FollowParts ps) (slots_of_parts ps) (parts_rows ps)
    parts_rows_say no_parts lo hi f = tt
    parts_rows_say (ps ▸ e) lo hi f =
        say_both lo f.0 hi (fine_parts_rise rank n ps lo f.0 f.1) (fine_rises rank n e f.0 hi f.2) (FollowParts ps) (Follow e)
        (follow_parts_from rank n ps lo f.0 f.1) (follow_from rank n e f.0 hi f.2) (slots_of_parts ps) (slots_of e) (parts_rows ps) (child_rows e)
        (parts_rows_say ps lo f.0 f.1) (child_rows_say e f.0 hi f.2)
