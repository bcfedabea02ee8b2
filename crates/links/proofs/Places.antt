-- The number of a constant as its place among the positions, and the number of slots as a sum of ranks.
-- Assumes nothing.
use Rattle.std.proofs.Common.{◌≡◌, ℕ, zero, suc, ◌+◌, Bool, true, false, cond, ltb, List, [], ◌∷◌, ◌++◌, length, sym, refl, ap, ◌∙◌, append-nil, add-one, arith, Some, None}
use Rattle.std.specs.List.{position, sum_by}
use Rattle.std.proofs.lemmas.Bool.{cond-true, cond-false, lt-ltb, le-ltb}
use Rattle.std.proofs.lemmas.List.{length-append, length_push}
use Rattle.std.proofs.lemmas.List.Recursion.{is_position_or_len}
use Rattle.std.proofs.lemmas.List.Sums.{sum_by-cons}
use Rattle.pattern.specs.declared.position.Position.{Position}
use Rattle.pattern.specs.Positions.{is_constant, has_constant, new_constant, constant}
use Rattle.links.specs.Numbering.{constant_number}
use Rattle.links.proofs.Naming.{found, missed}
use Rattle.links.specs.Slots.{child, slots_under, child_slots}

-- the place of a constant is its number, unless the constant is new
module _ (code : ℕ) (ps : List Position) where
  place : position (is_constant code) ps ≡ cond (ltb (constant_number code ps) (length ps)) (Some (constant_number code ps)) None
  place =
      ap (λ n. cond (ltb n (length ps)) (Some n) None)
      (sym (is_position_or_len (constant_number code) (is_constant code) refl (λ p rest. ap (cond (is_constant code p) 0) (omega arith)) ps))

  place_there : has_constant code ps ≡ true → position (is_constant code) ps ≡ Some (constant_number code ps)
  place_there e = place ∙ cond-true _ _ _ (lt-ltb (constant_number code ps) (length ps) (found code ps e).0)

  no_place : has_constant code ps ≡ false → position (is_constant code) ps ≡ None
  no_place e = place ∙ cond-false _ _ _ (le-ltb (constant_number code ps) (length ps) (omega (arith, missed code ps e)))

  -- a constant that is named already
  pub named_old : (number : ℕ) → position (is_constant code) ps ≡ Some number → (number ≡ constant_number code ps) × (ps ≡ ps ++ new_constant code ps)
  named_old number h = go (has_constant code ps) refl
    where
      go : (b : Bool) → has_constant code ps ≡ b → (number ≡ constant_number code ps) × (ps ≡ ps ++ cond b [] (constant code ∷ []))
      go true e = let there = place_there e in (cc, sym (append-nil ps))
      go false e = let none = no_place e in cc

  -- and one that is new
  pub named_new : position (is_constant code) ps ≡ None → (length ps ≡ constant_number code ps) × (new_constant code ps ≡ constant code ∷ [])
  named_new h = go (has_constant code ps) refl
    where
      go : (b : Bool) → has_constant code ps ≡ b → (length ps ≡ constant_number code ps) × (cond b [] (constant code ∷ []) ≡ constant code ∷ [])
      go true e = let there = place_there e in cc
      go false e = (sym (missed code ps e), refl)

-- the slots of positions are as many as their ranks together
pub under_length : (b n : ℕ) → length (slots_under b n) ≡ n
under_length b zero = refl
under_length b (suc n) = length_push (slots_under b n) (child b (suc n)) ∙ add-one (length (slots_under b n)) ∙ ap suc (under_length b n)

pub slots_sum : (b : ℕ) (ps : List Position) → length (child_slots b ps) ≡ sum_by (λ p. p.rank) ps
slots_sum b [] = refl
slots_sum b (p ∷ ps) =
    length-append (slots_under b p.rank) (child_slots (suc b) ps)
    ∙ ap (λ n. n + length (child_slots (suc b) ps)) (under_length b p.rank)
    ∙ ap (λ n. p.rank + n) (slots_sum (suc b) ps)
    ∙ sym (sum_by-cons (λ q. q.rank) p ps)
