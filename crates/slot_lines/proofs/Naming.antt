-- The names of a link's positions are written one after another: what a turn of that loop adds, where the link holds the
-- position and where it does not. Assumes nothing.
use Rattle.std.proofs.Common.{◌≡◌, ℕ, ◌+◌, ◌<◌, Bool, true, false, cond, List, [], ◌∷◌, ◌++◌, length, get_or, take, codes, sym, ap, ◌∙◌, refl, append_assoc, append-nil, add-zero, arith}
use lib.Utf8.{scalars, encodes, encode}
use Rattle.std.proofs.lemmas.List.{take_more, length-take-le}
use Rattle.std.proofs.lemmas.Grind.{put_two}
use Rattle.pattern.specs.declared.position.Position.{Position}
use Rattle.links.specs.Rows.{holds}
use Rattle.slot_lines.specs.Text.{position_name, next_name, names}

-- What stands before a name: nothing before the first.
abbrev pub separator : Bool → List ℕ
separator first = cond first [] (codes ", ")

-- Whether a name behind those of these positions would be the first.
abbrev pub still_first : Bool → ℕ → List Position → ℕ → Bool
still_first first number [] row = first
still_first first number (p ∷ ps) row = cond (holds number row) (still_first false (number + 1) ps row) (still_first first (number + 1) ps row)

-- what one position adds
abbrev added : Bool → ℕ → Position → ℕ → List ℕ
added first number p row = cond (holds number row) (separator first ++ position_name number p) []

added_alone : (b first : Bool) (n : ℕ) (p : Position) → cond b (next_name first n p ++ []) [] ≡ cond b (separator first ++ position_name n p) []
added_alone true true n p = append-nil (position_name n p)
added_alone true false n p = append-nil (codes ", " ++ position_name n p)
added_alone false first n p = refl

added_behind : (b first : Bool) (name held skipped held_more skipped_more : List ℕ) (was : Bool) (i j row : ℕ) (p : Position) → held_more ≡ held ++ added was i p row → skipped_more ≡ skipped ++ added first i p row → i ≡ j → cond b (name ++ held_more) skipped_more ≡ cond b (name ++ held) skipped ++ added (cond b was first) j p row
added_behind true first name held skipped held_more skipped_more was i j row p e f k =
    ap (λ l. name ++ l) e ∙ sym (append_assoc name held (added was i p row)) ∙ ap (λ n. (name ++ held) ++ added was n p row) k
added_behind false first name held skipped held_more skipped_more was i j row p e f k = f ∙ ap (λ n. skipped ++ added first n p row) k

names_more : (first : Bool) (n : ℕ) (ps : List Position) (p : Position) (row : ℕ) → names first n (ps ++ p ∷ []) row ≡ names first n ps row ++ added (still_first first n ps row) (n + length ps) p row
names_more first n [] p row = added_alone (holds n row) first n p ∙ ap (λ k. added first k p row) (sym (add-zero n))
names_more first n (q ∷ ps) p row =
    added_behind (holds n row) (still_first first (n + 1) ps row) (next_name first n q) _ _ _ _ (still_first false (n + 1) ps row) (n + 1 + length ps) (n + length (q ∷ ps)) row p (names_more false (n + 1) ps p row) (names_more first (n + 1) ps p row) (omega arith)

still_behind : (b held skipped held_more skipped_more : Bool) (row i j : ℕ) → held_more ≡ cond (holds i row) false held → skipped_more ≡ cond (holds i row) false skipped → i ≡ j → cond b held_more skipped_more ≡ cond (holds j row) false (cond b held skipped)
still_behind true held skipped held_more skipped_more row i j e f k = e ∙ ap (λ n. cond (holds n row) false held) k
still_behind false held skipped held_more skipped_more row i j e f k = f ∙ ap (λ n. cond (holds n row) false skipped) k

still_more : (first : Bool) (n : ℕ) (ps : List Position) (p : Position) (row : ℕ) → still_first first n (ps ++ p ∷ []) row ≡ cond (holds (n + length ps) row) false (still_first first n ps row)
still_more first n [] p row = ap (λ k. cond (holds k row) false first) (sym (add-zero n))
still_more first n (q ∷ ps) p row =
    still_behind (holds n row) (still_first false (n + 1) ps row) (still_first first (n + 1) ps row) _ _ row (n + 1 + length ps) (n + length (q ∷ ps)) (still_more false (n + 1) ps p row) (still_more first (n + 1) ps p row) (omega arith)

module _ (ps : List Position) (i row : ℕ) (d : Position) (h : i < length ps) where
  at : length (take i ps) ≡ i
  at = length-take-le i ps (omega arith)

  names_turn : (b : Bool) → holds i row ≡ b → names true 0 (take (i + 1) ps) row ≡ names true 0 (take i ps) row ++ cond b (separator (still_first true 0 (take i ps) row) ++ position_name i (get_or ps i d)) []
  names_turn b e =
      ap (λ l. names true 0 l row) (take_more ps i d h) ∙ names_more true 0 (take i ps) (get_or ps i d) row
      ∙ ap (λ k. names true 0 (take i ps) row ++ added (still_first true 0 (take i ps) row) k (get_or ps i d) row) (omega (arith, at))
      ∙ ap (λ t. names true 0 (take i ps) row ++ cond t (separator (still_first true 0 (take i ps) row) ++ position_name i (get_or ps i d)) []) e

  still_turn : (b : Bool) → holds i row ≡ b → still_first true 0 (take (i + 1) ps) row ≡ cond b false (still_first true 0 (take i ps) row)
  still_turn b e =
      ap (λ l. still_first true 0 l row) (take_more ps i d h) ∙ still_more true 0 (take i ps) (get_or ps i d) row
      ∙ ap (λ k. cond (holds k row) false (still_first true 0 (take i ps) row)) (omega (arith, at))
      ∙ ap (λ t. cond t false (still_first true 0 (take i ps) row)) e

  pub names_held : holds i row ≡ true → names true 0 (take (i + 1) ps) row ≡ names true 0 (take i ps) row ++ (separator (still_first true 0 (take i ps) row) ++ position_name i (get_or ps i d))
  names_held e = names_turn true e

  pub names_skipped : holds i row ≡ false → names true 0 (take (i + 1) ps) row ≡ names true 0 (take i ps) row
  names_skipped e = names_turn false e ∙ append-nil (names true 0 (take i ps) row)

  pub still_held : holds i row ≡ true → still_first true 0 (take (i + 1) ps) row ≡ false
  still_held e = still_turn true e

  pub still_skipped : holds i row ≡ false → still_first true 0 (take (i + 1) ps) row ≡ still_first true 0 (take i ps) row
  still_skipped e = still_turn false e

-- The comma is text, as each `&str` is.
pub comma_is_text : (x : List ℕ) × ((scalars x ≡ true) × (encodes x ≡ codes ", "))
unfolding encode
comma_is_text = (44 ∷ 32 ∷ [], (refl, refl))

-- What a turn of the loop over a link's positions needs.
pub ruleset naming_steps = (names_held, names_skipped, still_held, still_skipped, put_two, comma_is_text)
