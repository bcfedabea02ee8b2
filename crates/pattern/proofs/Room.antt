-- Room in a `Positions`: how many it lists, and whether one more has room. Assumes nothing.
use Rattle.std.proofs.Common.{◌≡◌, ◌+◌, ◌<◌, ◌≤◌, true, ltb, leb, [], ◌∷◌, ◌++◌, length, take, set, is_some, Some, None, Option, sym, ap, ◌∙◌, subst, add-one, arith}
use borrow.Author.Tests.{clash}
use Rattle.std.proofs.lemmas.List.{length-take-le, length_push, take_more_set}
use Rattle.std.specs.Option.{option_to_list}
use Rattle.pattern.specs.declared.position.Position.{Position}
use Rattle.pattern.specs.declared.positions.Positions.{Positions}
use Rattle.pattern.specs.Listed.{listed}

pub length_listed : (ps : Positions) → length (listed ps) ≡ ps.count
length_listed ps = length-take-le ps.count ps.list (omega (arith, ps.sized, ps.few))

-- what is listed with one more position, or with none
pub length_with_one : (ps : Positions) (p : Position) → length (listed ps ++ p ∷ []) ≡ ps.count + 1
length_with_one ps p = length_push (listed ps) p ∙ ap (λ n. n + 1) (length_listed ps)

pub room_for_one : (ps : Positions) (new : Option Position) (p : Position) → new ≡ Some p → length (listed ps ++ option_to_list new) ≤ 64 → ps.count < 64
room_for_one ps new p e h =
    omega (arith, subst (λ n. length (listed ps ++ option_to_list n) ≤ 64) e h, length_with_one ps p)

pub one_added : (ps : Positions) (new : Option Position) (p : Position) → new ≡ Some p → ps.count < 64 → take (ps.count + 1) (set ps.list ps.count p) ≡ listed ps ++ option_to_list new
one_added ps new p e h = take_more_set ps.list ps.count p (omega (arith, ps.sized)) ∙ ap (λ n. listed ps ++ option_to_list n) (sym e)

pub room_test : (ps : Positions) (new : Option Position) → is_some new ≡ true → ltb ps.count 64 ≡ leb (length (listed ps ++ option_to_list new)) 64
room_test ps None e = absurd (clash e)
room_test ps (Some p) e = ap (λ n. leb n 64) (sym (length_with_one ps p ∙ add-one ps.count))
