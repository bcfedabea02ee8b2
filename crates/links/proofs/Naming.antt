-- Positions only grow at the end, so a number below the length of an earlier list reads the same in every later one.
-- The number of a constant is, once the constant is named, that of a position with its code and rank 0. By induction
-- on the positions and on the commands. Assumes nothing.
use Rattle.std.proofs.Common.{◌≡◌, ℕ, suc, ◌<◌, ◌≤◌, Bool, true, false, cond, ◌||◌, eqb, List, [], ◌∷◌, ◌++◌, length, get_or, sym, refl, ap, ◌∙◌, subst, append_assoc, append-nil, arith, eqb-true}
use Rattle.std.proofs.lemmas.List.{length-append, length_push, get_or_append_left, get_or_push}
use Rattle.std.proofs.lemmas.Bool.{and_parts, or_parts, both_ways, cond-false}
use Rattle.format.specs.declared.command.PatternCommand.{PatternCommand}
use Rattle.pattern.specs.declared.position.Position.{Position}
use Rattle.pattern.specs.Positions.{position, constant, is_constant, has_constant, new_constant, new_position, positions_after}
use Rattle.links.specs.Numbering.{constant_number, code_at, rank_at}

-- The later list has the earlier one in front.
abbrev pub Extends : List Position → List Position → Type 0
Extends ps later = (rest : List Position) × (later ≡ ps ++ rest)

pub extends_self : (ps : List Position) → Extends ps ps
extends_self ps = ([], sym (append-nil ps))

pub extends_more : (ps new later : List Position) → Extends (ps ++ new) later → Extends ps later
extends_more ps new later x = (new ++ x.0, x.1 ∙ append_assoc ps new x.0)

pub extends_after : (cs : List PatternCommand) (ps later : List Position) → Extends (positions_after ps cs) later → Extends ps later
extends_after [] ps later x = x
extends_after (c ∷ cs) ps later x = extends_more ps (new_position c ps) later (extends_after cs (ps ++ new_position c ps) later x)

pub extends_length : (ps later : List Position) → Extends ps later → length ps ≤ length later
extends_length ps later x = omega (arith, ap length x.1, length-append ps x.0)

pub after_length : (ps : List Position) (cs : List PatternCommand) → length ps ≤ length (positions_after ps cs)
after_length ps cs = extends_length ps (positions_after ps cs) (extends_after cs ps (positions_after ps cs) (extends_self (positions_after ps cs)))

-- Commands behind others.
pub after_append : (cs ds : List PatternCommand) (ps : List Position) → positions_after ps (cs ++ ds) ≡ positions_after (positions_after ps cs) ds
after_append [] ds ps = refl
after_append (c ∷ cs) ds ps = after_append cs ds (ps ++ new_position c ps)

-- One command behind others, and behind those of two parts.
pub after_one : (cs : List PatternCommand) (c : PatternCommand) (ps : List Position) → positions_after ps (cs ++ c ∷ []) ≡ positions_after ps cs ++ new_position c (positions_after ps cs)
after_one cs c ps = after_append cs (c ∷ []) ps

pub after_two : (cs ds : List PatternCommand) (c : PatternCommand) (ps : List Position) → positions_after ps (cs ++ (ds ++ c ∷ [])) ≡ positions_after (positions_after ps cs) ds ++ new_position c (positions_after (positions_after ps cs) ds)
after_two cs ds c ps = after_append cs (ds ++ c ∷ []) ps ∙ after_one ds c (positions_after ps cs)

extends_get : (ps later : List Position) (n : ℕ) (d : Position) → Extends ps later → n < length ps → get_or later n d ≡ get_or ps n d
extends_get ps later n d x h = ap (λ l. get_or l n d) x.1 ∙ get_or_append_left ps x.0 d n h

-- A position that comes next has the next number.
pub position_named : (p : Position) (ps later : List Position) → Extends (ps ++ p ∷ []) later → (length ps < length later) × (get_or later (length ps) (position 0 0 0) ≡ p)
position_named p ps later x =
    let more : length ps < length (ps ++ p ∷ []) = omega (arith, length_push ps p) in (
      omega (arith, more, extends_length (ps ++ p ∷ []) later x),
      extends_get (ps ++ p ∷ []) later (length ps) (position 0 0 0) x more ∙ get_or_push ps p (position 0 0 0) (length ps) refl,
    )

-- The position n is the constant c, whatever its points.
abbrev pub ConstantAt : ℕ → List Position → ℕ → Type 0
ConstantAt c ps n = (n < length ps) × (rank_at ps n ≡ 0) × (code_at ps n ≡ c)

constant_later : (c : ℕ) (ps later : List Position) (n : ℕ) → Extends ps later → ConstantAt c ps n → ConstantAt c later n
constant_later c ps later n x a =
    let same = extends_get ps later n (position 0 0 0) x a.0 in
    (omega (arith, extends_length ps later x, a.0), ap (λ p. p.rank) same ∙ a.1, ap (λ p. p.code) same ∙ a.2)

-- Where the constant is there, its number is one of its positions; where it is not, its number is the next one.
found_next : (c : ℕ) (p : Position) (ps : List Position) (n : ℕ) (b : Bool) → is_constant c p ≡ b → (has_constant c ps ≡ true → ConstantAt c ps n) → (b || has_constant c ps) ≡ true → ConstantAt c (p ∷ ps) (cond b 0 (suc n))
found_next c p ps n true e rest h =
    let both = and_parts (eqb p.rank 0) (eqb p.code c) e in
    (omega arith, eqb-true p.rank 0 both.0, eqb-true p.code c both.1)
found_next c p ps n false e rest h = (omega (arith, (rest h).0), (rest h).1, (rest h).2)

pub found : (c : ℕ) (ps : List Position) → has_constant c ps ≡ true → ConstantAt c ps (constant_number c ps)
found c [] h = absurd (both_ways false refl h)
found c (p ∷ ps) h = found_next c p ps (constant_number c ps) (is_constant c p) refl (found c ps) h

pub missed : (c : ℕ) (ps : List Position) → has_constant c ps ≡ false → constant_number c ps ≡ length ps
missed c [] h = refl
missed c (p ∷ ps) h =
    let both = or_parts (is_constant c p) (has_constant c ps) h in
    cond-false (is_constant c p) 0 (suc (constant_number c ps)) both.0 ∙ ap suc (missed c ps both.1)

named_now : (c : ℕ) (ps : List Position) → ConstantAt c (ps ++ new_constant c ps) (constant_number c ps)
named_now c ps = go (has_constant c ps) refl
  where
    go : (b : Bool) → has_constant c ps ≡ b → ConstantAt c (ps ++ cond b [] (constant c ∷ [])) (constant_number c ps)
    go true e = subst (λ l. ConstantAt c l (constant_number c ps)) (sym (append-nil ps)) (found c ps e)
    go false e =
        let here = get_or_push ps (constant c) (position 0 0 0) (constant_number c ps) (sym (missed c ps e)) in
        (omega (arith, length_push ps (constant c), missed c ps e), ap (λ p. p.rank) here, ap (λ p. p.code) here)

pub constant_named : (c : ℕ) (ps later : List Position) → Extends (ps ++ new_constant c ps) later → ConstantAt c later (constant_number c ps)
constant_named c ps later x = constant_later c (ps ++ new_constant c ps) later (constant_number c ps) x (named_now c ps)
