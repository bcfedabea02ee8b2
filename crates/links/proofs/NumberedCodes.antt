-- A numbered pattern with the code of each position in place of its number is the pattern again; and different
-- constants of a pattern have different codes, since a constant that is there is not added again, and a node has a
-- rank above 0. By induction on the pattern, and on the commands. Assumes nothing.
use Rattle.std.proofs.Common.{◌≡◌, ℕ, zero, suc, Bool, true, false, cond, eqb, ◌⊎◌, List, [], ◌∷◌, ◌++◌, length, sym, refl, ap, ◌∙◌, subst, inl, inr, append-nil, arith, eq-eqb}
use Rattle.std.specs.List.{AllByRecursion}
use Rattle.std.proofs.lemmas.List.{length_push, get_or_append_left, get_or_push}
use Rattle.std.proofs.lemmas.Bool.{and_from, or_left, or_right, both_ways, cases_lt}
use Rattle.format.specs.declared.command.PatternCommand.{PatternCommand}
use Rattle.format.specs.declared.command.PatternCommand.TheVariants.{Sum, Leaf, Node, Product, Closure}
use Rattle.format.specs.Commands.{PatternOperands}
use Rattle.pattern.specs.declared.position.Position.{Position}
use Rattle.pattern.specs.Expressions.{Expr, leaf, node, sum, product, closure, Parts, no_parts, ◌▸◌, count, commands, parts_commands}
use Rattle.pattern.specs.Positions.{position, constant, is_constant, has_constant, new_constant, new_position, positions_after}
use Rattle.links.specs.Numbering.{numbered_behind, parts_behind, numbered, named, code_at, rank_at}
use Rattle.links.specs.Locality.{Operands}
use Rattle.links.proofs.Naming.{Extends, extends_self, extends_more, extends_after, after_append, after_one, after_two, position_named, constant_named, ConstantAt}
use Rattle.links.proofs.Relabelled.{relabel_expr, relabel_parts}
use Rattle.links.proofs.Rules.{Constant}

module _ (later : List Position) where
  mutual
    codes_behind : (e : Expr) (ps : List Position) → Extends (positions_after ps (commands e)) later → relabel_expr (code_at later) (numbered_behind e ps) ≡ e
    codes_behind (leaf c) ps x = ap leaf (constant_named c ps later x).2
    codes_behind (node c points qs) ps x =
        let now = positions_after ps (parts_commands qs) in
        let all = subst (λ l. Extends l later) (after_one (parts_commands qs) (Node c (count qs) points) ps) x in
        let here = ap (λ p. p.code) (position_named (position c (count qs) points) now later all).1 in
        let parts = codes_parts_behind qs ps (extends_more now (position c (count qs) points ∷ []) later all) in
        cc (here, parts)
    codes_behind (sum a b) ps x =
        let first = positions_after ps (commands a) in
        let both = extends_more (positions_after first (commands b)) [] later (subst (λ l. Extends l later) (after_two (commands a) (commands b) Sum ps) x) in
        cc (codes_behind a ps (extends_after (commands b) first later both), codes_behind b first both)
    codes_behind (product c a b) ps x =
        let first = positions_after ps (commands a) in
        let now = positions_after first (commands b) in
        let all = subst (λ l. Extends l later) (after_two (commands a) (commands b) (Product c) ps) x in
        let both = extends_more now (new_constant c now) later all in
        cc ((constant_named c now later all).2, codes_behind a ps (extends_after (commands b) first later both), codes_behind b first both)
    codes_behind (closure c a) ps x =
        let now = positions_after ps (commands a) in
        let all = subst (λ l. Extends l later) (after_one (commands a) (Closure c) ps) x in
        cc ((constant_named c now later all).2, codes_behind a ps (extends_more now (new_constant c now) later all))

    codes_parts_behind : (qs : Parts) (ps : List Position) → Extends (positions_after ps (parts_commands qs)) later → relabel_parts (code_at later) (parts_behind qs ps) ≡ qs
    codes_parts_behind no_parts ps x = refl
    codes_parts_behind (qs ▸ e) ps x =
        let before = positions_after ps (parts_commands qs) in
        let all = subst (λ l. Extends l later) (after_append (parts_commands qs) (commands e) ps) x in
        cc (codes_parts_behind qs ps (extends_after (commands e) before later all), codes_behind e before all)

pub numbered_codes : (e : Expr) → relabel_expr (code_at (named e)) (numbered e) ≡ e
numbered_codes e = codes_behind (named e) e [] (extends_self (named e))

-- A constant that stands at some number is there.
there : (c : ℕ) (ps : List Position) (b : ℕ) → ConstantAt c ps b → has_constant c ps ≡ true
there c [] b a = absurd (omega (arith, a.0))
there c (p ∷ ps) zero a = or_left (is_constant c p) (has_constant c ps) (and_from (eqb p.rank 0) (eqb p.code c) (eq-eqb p.rank 0 a.1) (eq-eqb p.code c a.2))
there c (p ∷ ps) (suc b) a = or_right (is_constant c p) (has_constant c ps) (there c ps b (omega (arith, a.0), a.1, a.2))

-- Each constant stands at one number.
abbrev Apart : List Position → Type 0
Apart ps = (c b d : ℕ) → ConstantAt c ps b → ConstantAt c ps d → b ≡ d

old_or_new : (c : ℕ) (ps : List Position) (p : Position) (b : ℕ) → ConstantAt c (ps ++ p ∷ []) b → ConstantAt c ps b ⊎ ((b ≡ length ps) × (p.rank ≡ 0) × (p.code ≡ c))
old_or_new c ps p b a = elim (cases_lt b (length ps)) [
  | inl h ↦ let same = get_or_append_left ps (p ∷ []) (position 0 0 0) b h in inl (h, sym (ap (λ q. q.rank) same) ∙ a.1, sym (ap (λ q. q.code) same) ∙ a.2)
  | inr h ↦
      let last : b ≡ length ps = omega (arith, h, a.0, length_push ps p) in
      let here = get_or_push ps p (position 0 0 0) b (sym last) in
      inr (last, sym (ap (λ q. q.rank) here) ∙ a.1, sym (ap (λ q. q.code) here) ∙ a.2)
]

apart_push : (ps : List Position) (p : Position) → (p.rank ≡ 0 → has_constant p.code ps ≡ false) → Apart ps → Apart (ps ++ p ∷ [])
apart_push ps p new apart c b d at_b at-d = go (old_or_new c ps p b at_b) (old_or_new c ps p d at-d)
  where
    not_both : (n : ℕ) → ConstantAt c ps n → p.rank ≡ 0 → p.code ≡ c → ⊥
    not_both n a r e = both_ways (has_constant p.code ps) (new r) (ap (λ k. has_constant k ps) e ∙ there c ps n a)

    go : ConstantAt c ps b ⊎ ((b ≡ length ps) × (p.rank ≡ 0) × (p.code ≡ c)) → ConstantAt c ps d ⊎ ((d ≡ length ps) × (p.rank ≡ 0) × (p.code ≡ c)) → b ≡ d
    go (inl h) (inl k) = apart c b d h k
    go (inl h) (inr k) = absurd (not_both b h k.1 k.2)
    go (inr h) (inl k) = absurd (not_both d k h.1 h.2)
    go (inr h) (inr k) = h.0 ∙ sym k.0

apart_constant : (c : ℕ) (ps : List Position) → Apart ps → Apart (ps ++ new_constant c ps)
apart_constant c ps apart = go (has_constant c ps) refl
  where
    go : (b : Bool) → has_constant c ps ≡ b → Apart (ps ++ cond b [] (constant c ∷ []))
    go true e = subst Apart (sym (append-nil ps)) apart
    go false e = apart_push ps (constant c) (λ _. e) apart

apart_next : (c : PatternCommand) (ps : List Position) → PatternOperands c → Apart ps → Apart (ps ++ new_position c ps)
apart_next (Leaf code) ps o apart = apart_constant code ps apart
apart_next (Node code rank points) ps o apart = apart_push ps (position code rank points) (λ r. absurd (omega (arith, r, o.1.0))) apart
apart_next Sum ps o apart = subst Apart (sym (append-nil ps)) apart
apart_next (Product code) ps o apart = apart_constant code ps apart
apart_next (Closure code) ps o apart = apart_constant code ps apart

apart_after : (cs : List PatternCommand) (ps : List Position) → AllByRecursion PatternOperands cs → Apart ps → Apart (positions_after ps cs)
apart_after [] ps o apart = apart
apart_after (c ∷ cs) ps o apart = apart_after cs (ps ++ new_position c ps) o.1 (apart_next c ps o.0 apart)

pub constants_apart : (e : Expr) → Operands e → (b c : ℕ) → Constant (rank_at (named e)) (length (named e)) b → Constant (rank_at (named e)) (length (named e)) c → code_at (named e) b ≡ code_at (named e) c → b ≡ c
constants_apart e o b c at_b at_c h =
    apart_after (commands e) [] o (λ c b d at_b at-d. absurd (omega (arith, at_b.0))) (code_at (named e) c) b c (at_b.0, at_b.1, h) (at_c.0, at_c.1, refl)
