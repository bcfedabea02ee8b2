-- A pattern has at most 253 slots: of its at most 64 positions the first is a constant, since the first command of any
-- expression is a leaf, and each of the others has at most 4 slots. Assumes nothing.
use Rattle.std.proofs.Common.{◌≡◌, ℕ, suc, ◌*◌, ◌≤◌, Bool, true, false, cond, ◌⊎◌, List, [], ◌∷◌, ◌++◌, length, sym, refl, ap, ◌∙◌, subst, inl, inr, ⊎_elim, arith}
use Rattle.std.proofs.ByRecursion.{All-append}
use Rattle.std.proofs.lemmas.List.{length-append}
use Rattle.std.specs.List.{AllByRecursion}
use Rattle.format.specs.declared.command.PatternCommand.{PatternCommand}
use Rattle.format.specs.declared.command.PatternCommand.TheVariants.{Sum, Leaf, Node, Product, Closure}
use Rattle.format.specs.Commands.{PatternOperands}
use Rattle.pattern.specs.declared.position.Position.{Position}
use Rattle.pattern.specs.Expressions.{Expr, leaf, node, sum, product, closure, Parts, no_parts, ◌▸◌, count, commands, parts_commands}
use Rattle.pattern.specs.Patterns.{Limits}
use Rattle.pattern.specs.Positions.{has_constant, constant, new_constant, new_position, positions_after, positions}
use Rattle.links.specs.Locality.{Operands}
use Rattle.links.specs.Numbering.{named}
use Rattle.links.specs.Slots.{slots, slots_under, child_slots}
use Rattle.links.proofs.Naming.{extends_after, extends_self}
use Rattle.links.proofs.Places.{under_length}
use Rattle.links.proofs.Splices.{all_split}

-- ranks of at most 4
abbrev Low : Position → Type 0
Low p = p.rank ≤ 4

constant_low : (c : ℕ) (ps : List Position) → AllByRecursion Low (new_constant c ps)
constant_low c ps = go (has_constant c ps)
  where
    go : (b : Bool) → AllByRecursion Low (cond b [] (constant c ∷ []))
    go true = tt
    go false = (omega arith, tt)

new_low : (c : PatternCommand) (ps : List Position) → PatternOperands c → AllByRecursion Low (new_position c ps)
new_low (Leaf code) ps h = constant_low code ps
new_low (Node code rank points) ps h = (h.1.1, tt)
new_low Sum ps h = tt
new_low (Product code) ps h = constant_low code ps
new_low (Closure code) ps h = constant_low code ps

after_low : (cs : List PatternCommand) (ps : List Position) → AllByRecursion PatternOperands cs → AllByRecursion Low ps → AllByRecursion Low (positions_after ps cs)
after_low [] ps o l = l
after_low (c ∷ cs) ps o l = after_low cs (ps ++ new_position c ps) o.1 (All-append Low ps (new_position c ps) l (new_low c ps o.0))

low_slots : (b : ℕ) (ps : List Position) → AllByRecursion Low ps → length (child_slots b ps) ≤ 4 * length ps
low_slots b [] l = omega arith
low_slots b (p ∷ ps) l =
    omega (arith, length-append (slots_under b p.rank) (child_slots (suc b) ps), under_length b p.rank, l.0, low_slots (suc b) ps l.1)

-- the first command
abbrev Begins : List PatternCommand → Type 0
Begins cs = (c : ℕ) × (rest : List PatternCommand) × (cs ≡ Leaf c ∷ rest)

begins_on : (cs ds : List PatternCommand) → Begins cs → Begins (cs ++ ds)
begins_on cs ds b = (b.0, b.1 ++ ds, ap (λ l. l ++ ds) b.2)

no_commands : (ps : Parts) → count ps ≡ 0 → parts_commands ps ≡ []
no_commands no_parts h = refl
no_commands (ps ▸ e) h = absurd (omega (arith, h))

mutual
  begins : (e : Expr) → Operands e → Begins (commands e)
  begins (leaf c) o = (c, [], refl)
  begins (node c points ps) o =
      let os = all_split PatternOperands (parts_commands ps) (Node c (count ps) points ∷ []) o in
      begins_on (parts_commands ps) (Node c (count ps) points ∷ []) (⊎_elim (λ none. absurd (omega (arith, none, os.1.0.1.0))) (λ b. b) (parts_begin ps os.0))
  begins (sum a b) o = begins_on (commands a) (commands b ++ Sum ∷ []) (begins a (all_split PatternOperands (commands a) (commands b ++ Sum ∷ []) o).0)
  begins (product c a b) o =
      begins_on (commands a) (commands b ++ Product c ∷ []) (begins a (all_split PatternOperands (commands a) (commands b ++ Product c ∷ []) o).0)
  begins (closure c a) o = begins_on (commands a) (Closure c ∷ []) (begins a (all_split PatternOperands (commands a) (Closure c ∷ []) o).0)

  parts_begin : (ps : Parts) → AllByRecursion PatternOperands (parts_commands ps) → (count ps ≡ 0) ⊎ Begins (parts_commands ps)
  parts_begin no_parts o = inl refl
  parts_begin (qs ▸ e) o =
      let os = all_split PatternOperands (parts_commands qs) (commands e) o in
      inr (⊎_elim (λ none. subst (λ l. Begins (l ++ commands e)) (sym (no_commands qs none)) (begins e os.1)) (λ b. begins_on (parts_commands qs) (commands e) b) (parts_begin qs os.0))

-- the first position is a constant, without slots
pub few_slots : (e : Expr) → Limits 512 e → length (slots (named e)) ≤ 253
few_slots e l =
    let b = begins e l.operands in
    let rest = extends_after b.1 (constant b.0 ∷ []) (positions (Leaf b.0 ∷ b.1)) (extends_self (positions (Leaf b.0 ∷ b.1))) in
    let is : named e ≡ constant b.0 ∷ rest.0 = ap positions b.2 ∙ rest.1 in
    let low = subst (AllByRecursion Low) is (after_low (commands e) [] l.operands tt) in
    omega (arith, ap (λ ps. length (slots ps)) is, low_slots 1 rest.0 low.1, l.few_positions, ap length is)
