-- Slots in their order, and the link of a slot: the positions that stand in it in some tree of the numbered pattern.
-- Assumes nothing.
use Rattle.std.specs.Prelude.{◌≡◌, ℕ, zero, suc, ◌⊎◌, List, [], ◌∷◌, ◌++◌, refl}
use Rattle.pattern.specs.declared.position.Position.{Position}
use Rattle.pattern.specs.Expressions.{Expr}
use Rattle.links.specs.Trees.{Trees, none, more, width}
use Rattle.links.specs.Language.{In}
use Rattle.links.specs.Numbering.{named, sample}

-- The root, or the i-th child of the position b, where i counts from 1.
pub data Slot : Type 0 where
  root : Slot
  child : ℕ → ℕ → Slot

-- Slots 1 to n of the position b.
abbrev pub slots_under : ℕ → ℕ → List Slot
slots_under b zero = []
slots_under b (suc n) = slots_under b n ++ child b (suc n) ∷ []

-- The slots of the positions, of which the first has the number b; a constant has rank 0, and no slots.
abbrev pub child_slots : ℕ → List Position → List Slot
child_slots b [] = []
child_slots b (p ∷ ps) = slots_under b p.rank ++ child_slots (suc b) ps

-- The root slot comes first.
abbrev pub slots : List Position → List Slot
slots ps = root ∷ child_slots 0 ps

-- Of trees side by side, x is the root of the i-th.
abbrev pub RootOf : ℕ → ℕ → Trees ℕ → Type 0
RootOf i x none = ⊥
RootOf i x (more ts y ys) = ((i ≡ suc (width ts)) × (x ≡ y)) ⊎ RootOf i x ts

-- Somewhere in these trees x is the i-th child of b.
abbrev pub ChildIn : ℕ → ℕ → ℕ → Trees ℕ → Type 0
ChildIn b i x none = ⊥
ChildIn b i x (more ts y ys) = ((y ≡ b) × RootOf i x ys) ⊎ ChildIn b i x ys ⊎ ChildIn b i x ts

-- The position x stands in the slot in the tree with the root y.
abbrev pub StandsIn : Slot → ℕ → ℕ → Trees ℕ → Type 0
StandsIn root x y ys = x ≡ y
StandsIn (child b i) x y ys = ChildIn b i x (more none y ys)

-- The link of a slot in a numbered pattern: the position x stands there in some numbered tree.
abbrev pub Link : Expr → Slot → ℕ → Type 0
Link e s x = (y : ℕ) × (ys : Trees ℕ) × In e y ys × StandsIn s x y ys

sample_slots : slots (named sample) ≡ root ∷ child 1 1 ∷ child 3 1 ∷ child 3 2 ∷ []
sample_slots = refl
