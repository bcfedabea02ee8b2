-- The slots of a numbered pattern, read off in the order of its links, are the slots of its positions: a node's own
-- come behind those of its parts, as the node is named behind them, and a constant has none. By induction on the
-- pattern, over any positions before it. Assumes nothing.
use Rattle.std.proofs.Common.{◌≡◌, ℕ, suc, ◌+◌, Bool, true, false, cond, List, [], ◌∷◌, ◌++◌, length, sym, ap, ◌∙◌, append_assoc, append-nil, arith}
use Rattle.format.specs.declared.command.PatternCommand.TheVariants.{Sum, Node, Product, Closure}
use Rattle.pattern.specs.declared.position.Position.{Position}
use Rattle.pattern.specs.Expressions.{Expr, leaf, node, sum, product, closure, Parts, no_parts, ◌▸◌, count, commands, parts_commands}
use Rattle.pattern.specs.Positions.{position, constant, has_constant, new_constant, positions_after}
use Rattle.links.specs.Numbering.{numbered_behind, parts_behind, numbered, named}
use Rattle.links.specs.Slots.{Slot, slots_under, child_slots}
use Rattle.links.proofs.Naming.{after_append, after_one, after_two}
use Rattle.links.proofs.NumberedFine.{count_behind}

abbrev mutual
  pub slots_of : Expr → List Slot
  slots_of (leaf c) = []
  slots_of (node b points ps) = slots_of_parts ps ++ slots_under b (count ps)
  slots_of (sum a b) = slots_of a ++ slots_of b
  slots_of (product c a b) = slots_of a ++ slots_of b
  slots_of (closure c a) = slots_of a

  pub slots_of_parts : Parts → List Slot
  slots_of_parts no_parts = []
  slots_of_parts (ps ▸ e) = slots_of_parts ps ++ slots_of e

-- one more position, and one more constant
slots_push : (b : ℕ) (ps : List Position) (p : Position) → child_slots b (ps ++ p ∷ []) ≡ child_slots b ps ++ slots_under (b + length ps) p.rank
slots_push b [] p = append-nil (slots_under b p.rank) ∙ ap (λ n. slots_under n p.rank) (omega arith)
slots_push b (q ∷ ps) p =
    ap (λ l. slots_under b q.rank ++ l) (slots_push (suc b) ps p)
    ∙ sym (append_assoc (slots_under b q.rank) (child_slots (suc b) ps) (slots_under (suc b + length ps) p.rank))
    ∙ ap (λ n. (slots_under b q.rank ++ child_slots (suc b) ps) ++ slots_under n p.rank) (omega arith)

slots_next : (ps : List Position) (p : Position) → child_slots 0 (ps ++ p ∷ []) ≡ child_slots 0 ps ++ slots_under (length ps) p.rank
slots_next ps p = slots_push 0 ps p ∙ ap (λ n. child_slots 0 ps ++ slots_under n p.rank) (omega arith)

slots_constant : (c : ℕ) (ps : List Position) → child_slots 0 (ps ++ new_constant c ps) ≡ child_slots 0 ps
slots_constant c ps = go (has_constant c ps)
  where
    go : (b : Bool) → child_slots 0 (ps ++ cond b [] (constant c ∷ [])) ≡ child_slots 0 ps
    go true = ap (child_slots 0) (append-nil ps)
    go false = slots_next ps (constant c) ∙ append-nil (child_slots 0 ps)

-- the slots of one list of positions behind those of another, as in a sum
slots_two : {ss ws : List Slot} (ts us vs : List Slot) → ss ≡ ts ++ us → ws ≡ ss ++ vs → ws ≡ ts ++ (us ++ vs)
slots_two ts us vs h k = k ∙ ap (λ l. l ++ vs) h ∙ append_assoc ts us vs

mutual
  slots_behind : (e : Expr) (ps : List Position) → child_slots 0 (positions_after ps (commands e)) ≡ child_slots 0 ps ++ slots_of (numbered_behind e ps)
  slots_behind (leaf c) ps = slots_constant c ps ∙ sym (append-nil (child_slots 0 ps))
  slots_behind (node c points qs) ps =
      let now = positions_after ps (parts_commands qs) in
      ap (child_slots 0) (after_one (parts_commands qs) (Node c (count qs) points) ps)
      ∙ slots_next now (position c (count qs) points)
      ∙ ap (λ l. l ++ slots_under (length now) (count qs)) (slots_parts_behind qs ps)
      ∙ append_assoc (child_slots 0 ps) (slots_of_parts (parts_behind qs ps)) (slots_under (length now) (count qs))
      ∙ ap (λ n. child_slots 0 ps ++ (slots_of_parts (parts_behind qs ps) ++ slots_under (length now) n)) (sym (count_behind qs ps))
  slots_behind (sum a b) ps =
      let first = positions_after ps (commands a) in
      ap (child_slots 0) (after_two (commands a) (commands b) Sum ps ∙ append-nil (positions_after first (commands b)))
      ∙ slots_two (child_slots 0 ps) (slots_of (numbered_behind a ps)) (slots_of (numbered_behind b first)) (slots_behind a ps) (slots_behind b first)
  slots_behind (product c a b) ps =
      let first = positions_after ps (commands a) in
      ap (child_slots 0) (after_two (commands a) (commands b) (Product c) ps)
      ∙ slots_constant c (positions_after first (commands b))
      ∙ slots_two (child_slots 0 ps) (slots_of (numbered_behind a ps)) (slots_of (numbered_behind b first)) (slots_behind a ps) (slots_behind b first)
  slots_behind (closure c a) ps =
      ap (child_slots 0) (after_one (commands a) (Closure c) ps) ∙ slots_constant c (positions_after ps (commands a)) ∙ slots_behind a ps

  slots_parts_behind : (qs : Parts) (ps : List Position) → child_slots 0 (positions_after ps (parts_commands qs)) ≡ child_slots 0 ps ++ slots_of_parts (parts_behind qs ps)
  slots_parts_behind no_parts ps = sym (append-nil (child_slots 0 ps))
  slots_parts_behind (qs ▸ e) ps =
      let before = positions_after ps (parts_commands qs) in
      ap (child_slots 0) (after_append (parts_commands qs) (commands e) ps)
      ∙ slots_two (child_slots 0 ps) (slots_of_parts (parts_behind qs ps)) (slots_of (numbered_behind e before)) (slots_parts_behind qs ps) (slots_behind e before)

pub numbered_slots : (e : Expr) → slots_of (numbered e) ≡ child_slots 0 (named e)
numbered_slots e = sym (slots_behind e [])
