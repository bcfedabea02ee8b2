-- The numbers that the rules make are the links: that of the root slot says First, and those of the other slots say
-- Follow, which are just the labels that stand there in some tree. Assumes nothing.
use Rattle.std.proofs.Common.{ℕ, List, [], ◌∷◌}
use mathlib.Core.Logic.Iff
use Rattle.pattern.specs.Expressions.{Expr}
use Rattle.links.specs.Slots.{Slot, root, child}
use Rattle.links.specs.Rows.{LinkRows, child_rows, link_rows}
use Rattle.links.proofs.Rules.{Follow, Fine}
use Rattle.links.proofs.NumberedSlots.{slots_of}
use Rattle.links.proofs.RuleLinks.{root_link, child_link}
use Rattle.links.proofs.Sayings.{root_row_says}
use Rattle.links.proofs.SlotRows.{Say, Ranged}
use Rattle.links.proofs.ChildRows.{child_rows_say}

module _ (rank : ℕ → ℕ) (n : ℕ) (e : Expr) (lo hi : ℕ) (f : Fine rank n lo hi e) where
  said_links : (R : ℕ → ℕ → Type 0) (ss : List Slot) (rows : List ℕ) → Say R (Follow e) ss rows → LinkRows e ss rows
  said_links R [] [] h = tt
  said_links R [] (row ∷ rows) h = absurd h
  said_links R (s ∷ ss) [] h = absurd h
  said_links R (root ∷ ss) (row ∷ rows) h = absurd h
  said_links R (child b i ∷ ss) (row ∷ rows) h = (λ x. Iff.trans (h.1 x) (child_link rank n e lo hi f b i x), said_links R ss rows h.2)

  pub rows_exact : LinkRows e (root ∷ slots_of e) (link_rows e)
  rows_exact = (
    (λ x. Iff.trans (root_row_says e x) (root_link rank n e lo hi f x)),
    said_links (Ranged lo hi) (slots_of e) (child_rows e) (child_rows_say rank n e lo hi f),
  )
