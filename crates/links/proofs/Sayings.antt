-- What one number says: it says S where it holds just the positions of S. The numbers that the rules of links make
-- say what the rules make of what their parts say, so the number of the roots of an expression says First.
-- Assumes nothing.
use Rattle.std.proofs.Common.{◌≡◌, ℕ, ◌^◌, Bool, true, false, cond, not, ◌&&◌, ◌||◌, eqb, ◌⊎◌, ◌↔◌, sym, refl, ap, ◌∙◌, subst, inl, inr, ⊎_elim}
use lib.Bits.{bit_or}
use Rattle.pattern.specs.Expressions.{Expr, leaf, node, sum, product, closure}
use Rattle.std.proofs.lemmas.Bool.{both_ways, eqb-true, eqb-false, eq-eqb, ne_eqb, or_cases, or_left, or_right, and_parts, and_from, not-true, not_from_false}
use Rattle.links.specs.Rows.{holds, cut, root_row}
use Rattle.links.proofs.Rules.{Cut, First}
use Rattle.links.proofs.Bits.{holds_or, holds_bit, holds_zero, holds_cut}

abbrev pub Says : ℕ → (ℕ → Type 0) → Type 0
Says row S = (x : ℕ) → (holds x row ≡ true) ↔ S x

pub says_same : (row : ℕ) (S T : ℕ → Type 0) → ((x : ℕ) → S x ↔ T x) → Says row S → Says row T
says_same row S T same says x = (λ h. (same x).0 ((says x).0 h), λ t. (says x).1 ((same x).1 t))

pub says_none : (S : ℕ → Type 0) → ((x : ℕ) → S x → ⊥) → Says 0 S
says_none S none x = (λ h. absurd (both_ways (holds x 0) (holds_zero x) h), λ s. absurd (none x s))

pub says_bit : (b : ℕ) → Says (2 ^ b) (λ x. x ≡ b)
says_bit b x = (λ h. eqb-true x b (sym (holds_bit x b) ∙ h), λ e. holds_bit x b ∙ eq-eqb x b e)

module _ (row instead : ℕ) (S T : ℕ → Type 0) (says : Says row S) (others : Says instead T) where
  pub says_or : Says (bit_or row instead) (λ x. S x ⊎ T x)
  says_or x = (
    (λ h. ⊎_elim (λ k. inl ((says x).0 k)) (λ k. inr ((others x).0 k)) (or_cases (holds x row) (holds x instead) (sym (holds_or x row instead) ∙ h))),
    (λ h. holds_or x row instead ∙ ⊎_elim (λ s. or_left (holds x row) (holds x instead) ((says x).1 s)) (λ t. or_right (holds x row) (holds x instead) ((others x).1 t)) h),
  )

  pub says_cut : (c : ℕ) → Says (cut c instead row) (Cut c S T)
  says_cut c x = go (holds c row) refl
    where
      rest : Bool
      rest = holds x row && not (eqb x c)

      go : (b : Bool) → holds c row ≡ b → (holds x (cut c instead row) ≡ true) ↔ Cut c S T x
      go true e =
          let is : holds x (cut c instead row) ≡ (rest || holds x instead) = holds_cut x c instead row ∙ ap (λ b. cond b (rest || holds x instead) (holds x row)) e in (
            (λ h. ⊎_elim
                (λ k. let p = and_parts (holds x row) (not (eqb x c)) k in inl ((says x).0 p.0, eqb-false x c (not-true (eqb x c) p.1)))
                (λ k. inr ((says c).0 e, (others x).0 k))
                (or_cases rest (holds x instead) (sym is ∙ h))),
            (λ h. is ∙ ⊎_elim
                (λ p. or_left rest (holds x instead) (and_from (holds x row) (not (eqb x c)) ((says x).1 p.0) (not_from_false (eqb x c) (ne_eqb x c p.1))))
                (λ p. or_right rest (holds x instead) ((others x).1 p.1))
                h),
          )
      go false e =
          let is : holds x (cut c instead row) ≡ holds x row = holds_cut x c instead row ∙ ap (λ b. cond b (rest || holds x instead) (holds x row)) e in (
            (λ h. inl ((says x).0 (sym is ∙ h), λ k. both_ways (holds c row) e (subst (λ y. holds y row ≡ true) k (sym is ∙ h)))),
            (λ h. is ∙ ⊎_elim (λ p. (says x).1 p.0) (λ p. absurd (both_ways (holds c row) e ((says c).1 p.0))) h),
          )

pub root_row_says : (e : Expr) → Says (root_row e) (First e)
root_row_says (leaf c) = says_bit c
root_row_says (node b points ps) = says_bit b
root_row_says (sum a b) = says_or (root_row a) (root_row b) (First a) (First b) (root_row_says a) (root_row_says b)
root_row_says (product c a b) = says_cut (root_row a) (root_row b) (First a) (First b) (root_row_says a) (root_row_says b) c
root_row_says (closure c a) = says_or (root_row a) (2 ^ c) (First a) (λ x. x ≡ c) (root_row_says a) (says_bit c)
