-- A numbered pattern is fine: the labels of its nodes rise, each node has its rank, and all other labels are
-- constants. By induction on the pattern, over any positions before it and any list that extends those after it.
-- Assumes nothing.
use Rattle.std.proofs.Common.{◌≡◌, ℕ, suc, ◌≤◌, List, [], ◌∷◌, ◌++◌, length, sym, refl, ap, ◌∙◌, subst, arith}
use Rattle.std.specs.List.{AllByRecursion}
use Rattle.std.proofs.lemmas.List.{length-append, length_push}
use Rattle.format.specs.declared.command.PatternCommand.TheVariants.{Sum, Leaf, Node, Product, Closure}
use Rattle.format.specs.Commands.{PatternOperands}
use Rattle.pattern.specs.declared.position.Position.{Position}
use Rattle.pattern.specs.Expressions.{Expr, leaf, node, sum, product, closure, Parts, no_parts, ◌▸◌, count, commands, parts_commands}
use Rattle.pattern.specs.Positions.{position, new_constant, positions_after}
use Rattle.links.specs.Numbering.{constant_number, numbered_behind, parts_behind, numbered, named, rank_at}
use Rattle.links.specs.Locality.{Operands}
use Rattle.links.proofs.Naming.{Extends, extends_self, extends_more, extends_after, after_length, after_append, after_one, after_two, position_named, constant_named}
use Rattle.links.proofs.Splices.{all_split}
use Rattle.links.proofs.Rules.{Constant, Fine, FineParts}

-- numbering keeps the number of parts
pub count_behind : (qs : Parts) (ps : List Position) → count (parts_behind qs ps) ≡ count qs
count_behind no_parts ps = refl
count_behind (qs ▸ e) ps = ap suc (count_behind qs ps)

-- The positions now are the first of the later ones, and hi at most.
abbrev Room : List Position → List Position → ℕ → Type 0
Room later now hi = Extends now later × (length now ≤ hi)

module _ (later : List Position) where
  room_before : (now new : List Position) (hi : ℕ) → Room later (now ++ new) hi → Room later now hi
  room_before now new hi r = (extends_more now new later r.0, omega (arith, r.1, length-append now new))

  constant_fine : (c : ℕ) (ps : List Position) (hi : ℕ) → Room later (ps ++ new_constant c ps) hi → Constant (rank_at later) (length later) (constant_number c ps)
  constant_fine c ps hi r = let at = constant_named c ps later r.0 in (at.0, at.1)

  node_fine : (c points hi : ℕ) (qs : Parts) (ps now : List Position) → PatternOperands (Node c (count qs) points) → Room later (now ++ position c (count qs) points ∷ []) hi → FineParts (rank_at later) (length later) (length ps) (length now) (parts_behind qs ps) → Fine (rank_at later) (length later) (length ps) hi (node (length now) points (parts_behind qs ps))
  node_fine c points hi qs ps now o r parts =
      let same = count_behind qs ps in (
        parts,
        omega (arith, r.1, length_push now (position c (count qs) points)),
        ap (λ p. p.rank) (position_named (position c (count qs) points) now later r.0).1 ∙ sym same,
        omega (arith, same, o.1.0),
      )

  mutual
    fine_behind : (e : Expr) (ps : List Position) (hi : ℕ) → AllByRecursion PatternOperands (commands e) → Room later (positions_after ps (commands e)) hi → Fine (rank_at later) (length later) (length ps) hi (numbered_behind e ps)
    fine_behind (leaf c) ps hi o r = (constant_fine c ps hi r, omega (arith, r.1, after_length ps (Leaf c ∷ [])))
    fine_behind (node c points qs) ps hi o r =
        let os = all_split PatternOperands (parts_commands qs) (Node c (count qs) points ∷ []) o in
        let now = positions_after ps (parts_commands qs) in
        let all = subst (λ l. Room later l hi) (after_one (parts_commands qs) (Node c (count qs) points) ps) r in
        node_fine c points hi qs ps now os.1.0 all (fine_parts_behind qs ps (length now) os.0 (extends_more now (position c (count qs) points ∷ []) later all.0, omega arith))
    fine_behind (sum a b) ps hi o r =
        let os = all_split PatternOperands (commands a) (commands b ++ Sum ∷ []) o in
        let first = positions_after ps (commands a) in
        let both = room_before (positions_after first (commands b)) [] hi (subst (λ l. Room later l hi) (after_two (commands a) (commands b) Sum ps) r) in (
          length first,
          fine_behind a ps (length first) os.0 (extends_after (commands b) first later both.0, omega arith),
          fine_behind b first hi (all_split PatternOperands (commands b) (Sum ∷ []) os.1).0 both,
        )
    fine_behind (product c a b) ps hi o r =
        let os = all_split PatternOperands (commands a) (commands b ++ Product c ∷ []) o in
        let first = positions_after ps (commands a) in
        let now = positions_after first (commands b) in
        let all = subst (λ l. Room later l hi) (after_two (commands a) (commands b) (Product c) ps) r in
        let both = room_before now (new_constant c now) hi all in (
          length first,
          fine_behind a ps (length first) os.0 (extends_after (commands b) first later both.0, omega arith),
          fine_behind b first hi (all_split PatternOperands (commands b) (Product c ∷ []) os.1).0 both,
          constant_fine c now hi all,
        )
    fine_behind (closure c a) ps hi o r =
        let now = positions_after ps (commands a) in
        let all = subst (λ l. Room later l hi) (after_one (commands a) (Closure c) ps) r in
        (fine_behind a ps hi (all_split PatternOperands (commands a) (Closure c ∷ []) o).0 (room_before now (new_constant c now) hi all), constant_fine c now hi all)

    fine_parts_behind : (qs : Parts) (ps : List Position) (hi : ℕ) → AllByRecursion PatternOperands (parts_commands qs) → Room later (positions_after ps (parts_commands qs)) hi → FineParts (rank_at later) (length later) (length ps) hi (parts_behind qs ps)
    fine_parts_behind no_parts ps hi o r = r.1
    fine_parts_behind (qs ▸ e) ps hi o r =
        let os = all_split PatternOperands (parts_commands qs) (commands e) o in
        let before = positions_after ps (parts_commands qs) in
        let all = subst (λ l. Room later l hi) (after_append (parts_commands qs) (commands e) ps) r in
        (length before, fine_parts_behind qs ps (length before) os.0 (extends_after (commands e) before later all.0, omega arith), fine_behind e before hi os.1 all)

pub numbered_fine : (e : Expr) → Operands e → Fine (rank_at (named e)) (length (named e)) 0 (length (named e)) (numbered e)
numbered_fine e o = fine_behind (named e) e [] (length (named e)) o (extends_self (named e), omega arith)
