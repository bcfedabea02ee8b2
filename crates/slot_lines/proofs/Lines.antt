-- The lines of slots are added one after another, and those of one position's slots after those of another's: a turn of
-- each loop. Assumes nothing.
use Rattle.std.proofs.Common.{◌≡◌, ℕ, suc, ◌+◌, ◌<◌, ◌≤◌, List, [], ◌∷◌, ◌++◌, length, get_or, take, drop, sym, ap, ◌∙◌, refl, append_assoc, append-nil, add-zero, add-one, arith}
use Rattle.std.proofs.lemmas.Option.{get_or_from_slice_get}
use Rattle.std.proofs.lemmas.List.{take_more, take-append-drop, drop_more, drop_all, drop-drop, length-append, length-take-le, length-drop}
use Rattle.pattern.specs.declared.position.Position.{Position}
use Rattle.links.specs.Slots.{Slot, child, slots_under, child_slots}
use Rattle.links.proofs.Places.{under_length}
use Rattle.slot_lines.specs.Text.{slot_words, slot_line, slot_lines}

-- The lines of some slots, and of others behind them.
lines_join : (ps : List Position) (n : ℕ) (ss ts : List Slot) (rs qs : List ℕ) → length ss ≡ length rs → slot_lines ps n (ss ++ ts) (rs ++ qs) ≡ slot_lines ps n ss rs ++ slot_lines ps (n + length ss) ts qs
lines_join ps n [] ts [] qs e = ap (λ k. slot_lines ps k ts qs) (sym (add-zero n))
lines_join ps n [] ts (r ∷ rs) qs e = absurd (omega (arith, e))
lines_join ps n (s ∷ ss) ts [] qs e = absurd (omega (arith, e))
lines_join ps n (s ∷ ss) ts (r ∷ rs) qs e =
    let line = slot_line ps n (slot_words ps s) r in
    ap (λ l. line ++ l) (lines_join ps (n + 1) ss ts rs qs (omega (arith, e)))
    ∙ sym (append_assoc line (slot_lines ps (n + 1) ss rs) (slot_lines ps (n + 1 + length ss) ts qs))
    ∙ ap (λ k. (line ++ slot_lines ps (n + 1) ss rs) ++ slot_lines ps k ts qs) (omega arith)

-- The lines of one more slot of the position b.
pub lines_under_more : (ps : List Position) (n b i : ℕ) (rows : List ℕ) → i < length rows → slot_lines ps n (slots_under b (i + 1)) (take (i + 1) rows) ≡ slot_lines ps n (slots_under b i) (take i rows) ++ slot_line ps (n + i) (slot_words ps (child b (i + 1))) (get_or rows i 0)
lines_under_more ps n b i rows h =
    let row = get_or rows i 0 in
    let last = child b (suc i) in
    let front = slots_under b i in
    let same : length front ≡ length (take i rows) = under_length b i ∙ sym (length-take-le i rows (omega arith)) in
    rw (take_more rows i 0 h, add-one i, lines_join ps n front (last ∷ []) (take i rows) (row ∷ []) same, under_length b i) (ap (λ l. slot_lines ps n front (take i rows) ++ l) (append-nil (slot_line ps (n + i) (slot_words ps last) row)))

-- What a turn of the loop over one position's slots needs.
pub ruleset line_steps = (lines_under_more, append_assoc, get_or_from_slice_get)

-- The lines in `text`, and those of the slots of the positions from the i-th on, make the whole, and there are numbers
-- for these slots from `at` on.
pub record Listing (ps : List Position) (rows : List ℕ) (i at : ℕ) (whole text : List ℕ) : Type 0 where
  pub makes : whole ≡ text ++ slot_lines ps at (child_slots i (drop i ps)) (drop at rows)
  pub even : length rows ≡ at + length (child_slots i (drop i ps))

module _ {ps : List Position} {rows : List ℕ} {i at : ℕ} {whole text : List ℕ} (so : Listing ps rows i at whole text) (d : Position) (h : i < length ps) where
  left : child_slots i (drop i ps) ≡ slots_under i (get_or ps i d).rank ++ child_slots (i + 1) (drop (i + 1) ps)
  left = ap (child_slots i) (drop_more ps i d h) ∙ ap (λ k. slots_under i (get_or ps i d).rank ++ child_slots k (drop (i + 1) ps)) (sym (add-one i))

  pub still_even : length rows ≡ at + (get_or ps i d).rank + length (child_slots (i + 1) (drop (i + 1) ps))
  still_even =
      omega (arith, so.even, ap length left, length-append (slots_under i (get_or ps i d).rank) (child_slots (i + 1) (drop (i + 1) ps)), under_length i (get_or ps i d).rank)

  pub within : at + (get_or ps i d).rank ≤ length rows
  within = omega (arith, still_even)

  pub one_listed : (longer : List ℕ) → longer ≡ text ++ slot_lines ps at (slots_under i (get_or ps i d).rank) (take (get_or ps i d).rank (drop at rows)) → Listing ps rows (i + 1) (at + (get_or ps i d).rank) whole longer
  one_listed longer long =
      let rank = (get_or ps i d).rank in
      let part = take rank (drop at rows) in
      let rest = child_slots (i + 1) (drop (i + 1) ps) in
      let tail = drop (at + rank) rows in
      let split : drop at rows ≡ part ++ tail = sym (take-append-drop rank (drop at rows)) ∙ ap (λ l. part ++ l) (drop-drop rank at rows) in
      let same : length (slots_under i rank) ≡ length part = under_length i rank ∙ sym (length-take-le rank (drop at rows) (omega (arith, still_even, length-drop at rows))) in
      record {
        makes = so.makes ∙ rw (left, split, lines_join ps at (slots_under i rank) rest part tail same, under_length i rank, long, append_assoc) refl;
        even = still_even;
      }
