-- A loop that writes f of each element of one list over the front of another: one turn.
-- Assumes nothing.
use Rattle.std.proofs.Common.{◌≡◌, ℕ, ◌+◌, ◌<◌, ◌≤◌, List, [], ◌∷◌, ◌++◌, map, length, get_or, take, drop, set, sym, ap, ◌∙◌, append_assoc, arith}
use Rattle.std.proofs.lemmas.List.{drop_more, set_at, map_more, length-map, length-take-le}

module _ {X Y : Type 0} (f : X → Y) (xs : List X) (ys : List Y) (fits : length xs ≤ length ys) where
  pub filled_more : (i : ℕ) (d : X) (e : Y) → i < length xs → set (map f (take i xs) ++ drop i ys) i (f (get_or xs i d)) ≡ map f (take (i + 1) xs) ++ drop (i + 1) ys
  filled_more i d e h =
      let before = length-map (take i xs) f ∙ length-take-le i xs (omega arith) in
      ap (λ l. set (map f (take i xs) ++ l) i (f (get_or xs i d))) (drop_more ys i e (omega (arith, fits)))
      ∙ set_at (map f (take i xs)) (get_or ys i e) (drop (i + 1) ys) (f (get_or xs i d)) i before
      ∙ sym (append_assoc (map f (take i xs)) (f (get_or xs i d) ∷ []) (drop (i + 1) ys))
      ∙ ap (λ l. l ++ drop (i + 1) ys) (sym (map_more f xs i d h))
