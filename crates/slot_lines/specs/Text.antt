-- The text by which the slots of a pattern and their links are listed, a line for each slot. docs/INSPECT.md shows it.
-- Assumes nothing.
use Rattle.std.specs.Prelude.{ℕ, ◌+◌, Bool, true, false, cond, List, [], ◌∷◌, ◌++◌, codes, decimal, ◌==◌, slice_index_or}
use Rattle.pattern.specs.declared.position.Position.{Position}
use Rattle.pattern.specs.Positions.{position}
use Rattle.links.specs.Rows.{holds}
use Rattle.links.specs.Slots.{Slot, root, child}

-- A position by its number and its symbol.
abbrev pub position_name : ℕ → Position → List ℕ
position_name number p =
    cond (p.rank == 0) (decimal number ++ (codes " (constant " ++ (decimal p.code ++ codes ")")))
    (decimal number ++ (codes " (node " ++ (decimal p.code ++ codes ")")))

-- The name of one more position, behind a comma unless it is the first.
abbrev pub next_name : Bool → ℕ → Position → List ℕ
next_name first number p = cond first (position_name number p) (codes ", " ++ position_name number p)

-- Of positions, of which the first has this number, those that the link holds.
abbrev pub names : Bool → ℕ → List Position → ℕ → List ℕ
names first number [] row = []
names first number (p ∷ ps) row =
    cond (holds number row) (next_name first number p ++ names false (number + 1) ps row) (names first (number + 1) ps row)

-- The positions of a link, which is empty where its number is 0.
abbrev pub link_names : List Position → ℕ → List ℕ
link_names ps row = cond (row == 0) (codes "none") (names true 0 ps row)

-- A slot in words.
abbrev pub slot_words : List Position → Slot → List ℕ
slot_words ps root = codes "root"
slot_words ps (child b i) = codes "child " ++ (decimal i ++ (codes " of " ++ position_name b (slice_index_or ps b (position 0 0 0))))

-- A line for each slot, with its number, its words and its link.
abbrev pub slot_line : List Position → ℕ → List ℕ → ℕ → List ℕ
slot_line ps number words row =
    codes "slot " ++ (decimal number ++ (codes ": " ++ (words ++ (codes ", link " ++ (decimal row ++ (codes ": " ++ (link_names ps row ++ 10 ∷ [])))))))

abbrev pub slot_lines : List Position → ℕ → List Slot → List ℕ → List ℕ
slot_lines ps number [] rows = []
slot_lines ps number (s ∷ ss) [] = []
slot_lines ps number (s ∷ ss) (row ∷ rows) = slot_line ps number (slot_words ps s) row ++ slot_lines ps (number + 1) ss rows
