-- The numbers of some slots, one for each, that say what a relation F says of them: that of the slot (y, i) holds just
-- the x with F y i x. All these slots lie in a set R. Such numbers can be joined, mapped, and read for another relation
-- that agrees with the first on R; some number holds x exactly where F y i x of some slot. Assumes nothing.
use Rattle.std.proofs.Common.{◌≡◌, ℕ, ◌<◌, ◌≤◌, Bool, true, false, ◌⊎◌, ◌↔◌, List, [], ◌∷◌, ◌++◌, map, length, replicate, refl, ap, subst, inl, inr, ⊎_elim, arith}
use mathlib.Core.List.Memᴰ
use mathlib.Core.List.{Memᴰ}
use Rattle.std.proofs.lemmas.List.{map-id}
use Rattle.std.proofs.lemmas.Bool.{false≢true, or_cases, or_left, or_right}
use Rattle.links.specs.Slots.{Slot, root, child}
use Rattle.links.specs.Rows.{holds, any_holds, kept}
use Rattle.links.proofs.Sayings.{Says, says_same, says_none}

abbrev pub Say : (ℕ → ℕ → Type 0) → (ℕ → ℕ → ℕ → Type 0) → List Slot → List ℕ → Type 0
Say R F [] [] = Unit {0}
Say R F [] (row ∷ rows) = ⊥
Say R F (s ∷ ss) [] = ⊥
Say R F (root ∷ ss) (row ∷ rows) = ⊥
Say R F (child y i ∷ ss) (row ∷ rows) = R y i × Says row (F y i) × Say R F ss rows

module _ (R : ℕ → ℕ → Type 0) (F : ℕ → ℕ → ℕ → Type 0) where
  pub say_append : (ss ts : List Slot) (rows more : List ℕ) → Say R F ss rows → Say R F ts more → Say R F (ss ++ ts) (rows ++ more)
  say_append [] ts [] more s t = t
  say_append [] ts (row ∷ rows) more s t = absurd s
  say_append (s ∷ ss) ts [] more h t = absurd h
  say_append (root ∷ ss) ts (row ∷ rows) more h t = absurd h
  say_append (child y i ∷ ss) ts (row ∷ rows) more h t = (h.0, h.1, say_append ss ts rows more h.2 t)

  module _ (x : ℕ) where
    -- x is in the number of a slot
    pub say_some : (ss : List Slot) (rows : List ℕ) → Say R F ss rows → any_holds x rows ≡ true → (y : ℕ) × (i : ℕ) × F y i x
    say_some [] [] h k = absurd (false≢true k)
    say_some [] (row ∷ rows) h k = absurd h
    say_some (s ∷ ss) [] h k = absurd h
    say_some (root ∷ ss) (row ∷ rows) h k = absurd h
    say_some (child y i ∷ ss) (row ∷ rows) h k =
        ⊎_elim (λ here. (y, i, (h.1 x).0 here)) (say_some ss rows h.2) (or_cases (holds x row) (any_holds x rows) k)

    pub say_any : (y i : ℕ) → F y i x → (ss : List Slot) (rows : List ℕ) → Say R F ss rows → Memᴰ (child y i) ss → any_holds x rows ≡ true
    say_any y i f [] [] h m = elim m [ ]
    say_any y i f [] (row ∷ rows) h m = absurd h
    say_any y i f (s ∷ ss) [] h m = absurd h
    say_any y i f (root ∷ ss) (row ∷ rows) h m = absurd h
    say_any y i f (child z j ∷ ss) (row ∷ rows) h m =
        ⊎_elim (λ (e : child y i ≡ child z j). or_left (holds x row) (any_holds x rows) ((h.1 x).1 (here e)))
        (λ n. or_right (holds x row) (any_holds x rows) (say_any y i f ss rows h.2 n))
        (Memᴰ.cases_cons m)
      where
        here : child y i ≡ child z j → F z j x
        here e =
            let p : y ≡ z = cc in
            let q : i ≡ j = cc in
            subst (λ k. F z k x) q (subst (λ w. F w i x) p f)

-- from a set of slots and a relation to others
module _ (R Q : ℕ → ℕ → Type 0) (F G : ℕ → ℕ → ℕ → Type 0) where
  pub say_map : (f : ℕ → ℕ) → ((y i row : ℕ) → R y i → Says row (F y i) → Q y i × Says (f row) (G y i)) → (ss : List Slot) (rows : List ℕ) → Say R F ss rows → Say Q G ss (map f rows)
  say_map f to [] [] h = tt
  say_map f to [] (row ∷ rows) h = absurd h
  say_map f to (s ∷ ss) [] h = absurd h
  say_map f to (root ∷ ss) (row ∷ rows) h = absurd h
  say_map f to (child y i ∷ ss) (row ∷ rows) h =
      let here = to y i row h.0 h.1 in
      (here.0, here.1, say_map f to ss rows h.2)

  pub say_change : ((y i : ℕ) → R y i → Q y i × ((x : ℕ) → F y i x ↔ G y i x)) → (ss : List Slot) (rows : List ℕ) → Say R F ss rows → Say Q G ss rows
  say_change to ss rows h =
      subst (Say Q G ss) (map-id rows)
      (say_map (λ row. row) (λ y i row r says. ((to y i r).0, says_same row (F y i) (G y i) (to y i r).1 says)) ss rows h)

zeros : (rows : List ℕ) → map {B = ℕ} (λ row. 0) rows ≡ replicate (length rows) 0
zeros [] = refl
zeros (row ∷ rows) = ap {B = List ℕ} (λ l. 0 ∷ l) (zeros rows)

-- the numbers of a product's second part, where P says that it is reached
pub say_kept : (R : ℕ → ℕ → Type 0) (F : ℕ → ℕ → ℕ → Type 0) (P : Type 0) (reached : Bool) → ((reached ≡ true) ↔ P) → (ss : List Slot) (rows : List ℕ) → Say R F ss rows → Say R (λ y i x. P × F y i x) ss (kept reached rows)
say_kept R F P true is ss rows h = say_change R R F (λ y i x. P × F y i x) (λ y i r. (r, λ x. ((λ g. (is.0 refl, g)), λ p. p.1))) ss rows h
say_kept R F P false is ss rows h =
    let G : ℕ → ℕ → ℕ → Type 0 = λ y i x. P × F y i x in
    subst (Say R G ss) (zeros rows) (say_map R R F G (λ row. 0) (λ y i row r says. (r, says_none (G y i) (λ x p. false≢true (is.1 p.0)))) ss rows h)

-- the slots of a label in a range, and a relation that holds at these only
abbrev pub Ranged : ℕ → ℕ → ℕ → ℕ → Type 0
Ranged lo hi y i = (lo ≤ y) × (y < hi)

abbrev pub Inside : ℕ → ℕ → (ℕ → ℕ → ℕ → Type 0) → Type 0
Inside lo hi F = (y i x : ℕ) → F y i x → Ranged lo hi y i

-- two parts in ranges that meet at mid
pub say_both : (lo mid hi : ℕ) → lo ≤ mid → mid ≤ hi → (F G : ℕ → ℕ → ℕ → Type 0) → Inside lo mid F → Inside mid hi G → (ss ts : List Slot) (rows more : List ℕ) → Say (Ranged lo mid) F ss rows → Say (Ranged mid hi) G ts more → Say (Ranged lo hi) (λ y i x. F y i x ⊎ G y i x) (ss ++ ts) (rows ++ more)
say_both lo mid hi low high F G first second ss ts rows more s t =
    let H : ℕ → ℕ → ℕ → Type 0 = λ y i x. F y i x ⊎ G y i x in
    say_append (Ranged lo hi) H ss ts rows more
    (say_change (Ranged lo mid) (Ranged lo hi) F H (λ y i r. (omega arith, λ x. (inl, ⊎_elim (λ p. p) (λ p. absurd (omega (arith, second y i x p)))))) ss rows s)
    (say_change (Ranged mid hi) (Ranged lo hi) G H (λ y i r. (omega arith, λ x. (inr, ⊎_elim (λ p. absurd (omega (arith, first y i x p))) (λ p. p)))) ts more t)
