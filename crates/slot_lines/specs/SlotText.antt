-- A slot in words, from the slot alone: a child's parent is handed over with its number and its symbol.
-- Assumes nothing.
use Rattle.std.specs.Prelude.{◌≡◌, ℕ, List, ◌++◌, codes, decimal, slice_index_or, refl}
use Rattle.pattern.specs.declared.position.Position.{Position}
use Rattle.pattern.specs.Positions.{position}
use Rattle.links.specs.Slots.{root, child}
use Rattle.slot_lines.specs.declared.words.Slot.{Slot}
use Rattle.slot_lines.specs.declared.words.Slot.TheVariants.{Root, Child}
use Rattle.slot_lines.specs.Text.{position_name, slot_words}

abbrev pub slot_text : Slot → List ℕ
slot_text Root = codes "root"
slot_text (Child number parent) =
    codes "child " ++ (decimal number ++ (codes " of " ++ position_name parent.number parent.position))

-- They are the slot's words among the positions.
root_words : (ps : List Position) → slot_text Root ≡ slot_words ps root
root_words ps = refl

child_words : (ps : List Position) (b i : ℕ) → slot_text (Child i (record { number = b; position = slice_index_or ps b (position 0 0 0) })) ≡ slot_words ps (child b i)
child_words ps b i = refl
