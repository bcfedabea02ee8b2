-- A list in parts: what holds of all holds of each part; what a part in the middle holds, and the list with something
-- else written there. Assumes nothing.
use Rattle.std.proofs.Common.{◌≡◌, ℕ, List, [], ◌∷◌, ◌++◌, length, take, drop, ap, ◌∙◌}
use borrow.Rule.Slice.PartMut.{put_mid}
use Rattle.std.proofs.lemmas.List.{take_at, drop_at}
use Rattle.std.specs.List.{AllByRecursion}

-- what holds of all of two lists, one behind the other
pub all_split : {X : Type 0} (P : X → Type 0) (xs ys : List X) → AllByRecursion P (xs ++ ys) → AllByRecursion P xs × AllByRecursion P ys
all_split P [] ys a = (tt, a)
all_split P (x ∷ xs) ys a = ((a.0, (all_split P xs ys a.1).0), (all_split P xs ys a.1).1)

module _ {X : Type 0} (front middle back xs : List X) (is : xs ≡ front ++ (middle ++ back)) (a k : ℕ) (long : length front ≡ a) (wide : length middle ≡ k) where
  behind : drop a xs ≡ middle ++ back
  behind = ap (drop a) is ∙ drop_at front (middle ++ back) a long

  pub middle_is : take k (drop a xs) ≡ middle
  middle_is = ap (take k) behind ∙ take_at middle back k wide

  pub written : (ys : List X) → put_mid a k xs ys ≡ front ++ (ys ++ back)
  written ys =
      ap (λ l. l ++ (ys ++ drop k (drop a xs))) (ap (take a) is ∙ take_at front (middle ++ back) a long)
      ∙ ap (λ l. front ++ (ys ++ l)) (ap (drop k) behind ∙ drop_at middle back k wide)
