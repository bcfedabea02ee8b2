-- Commands that are in order and leave one part pending are those of an expression within the limits.
-- By the stack of proofs/Stack.antt, along the commands. Assumes nothing.
use Rattle.std.proofs.Common.{◌≡◌, ℕ, ◌+◌, ◌-◌, ◌≤◌, min, List, [], ◌∷◌, ◌++◌, length, sym, refl, ap, ◌∙◌, subst, append_assoc, append-nil, arith}
use Rattle.std.specs.List.{AllByRecursion}
use Rattle.format.specs.declared.command.PatternCommand.{PatternCommand}
use Rattle.format.specs.Commands.{takes, PatternOperands}
use Rattle.pattern.specs.Expressions.{Expr, Parts, no_parts, ◌▸◌, count, commands, parts_commands}
use Rattle.pattern.specs.Judging.{Standing, start, after, standing_from, standing}
use Rattle.pattern.specs.Patterns.{InOrderFrom, InOrder, Limits}
use Rattle.pattern.specs.Positions.{positions_after, positions}
use Rattle.pattern.proofs.Stack.{push, build, pushed_commands, pushed_count}

-- the positions that commands name
pub standing_positions : (s : Standing) (cs : List PatternCommand) → (standing_from s cs).positions ≡ positions_after s.positions cs
standing_positions s [] = refl
standing_positions s (c ∷ cs) = standing_positions (after s c) cs

assembled : (free : ℕ) (s : Standing) (cs : List PatternCommand) (ps : Parts) → InOrderFrom free s cs → s.pending ≡ count ps → (parts_commands (build ps cs) ≡ parts_commands ps ++ cs) × (count (build ps cs) ≡ (standing_from s cs).pending)
assembled free s [] ps i e = (sym (append-nil (parts_commands ps)), sym e)
assembled free s (c ∷ cs) ps i e =
    let enough : takes c ≤ count ps = omega (arith, i.1, e) in
    let rest = assembled (free - 1) (after s c) cs (push ps c) i.4 (ap (λ n. n - takes c + 1) e ∙ sym (pushed_count ps c enough)) in (
      rest.0 ∙ ap (λ l. l ++ cs) (pushed_commands ps c enough) ∙ append_assoc (parts_commands ps) (c ∷ []) cs,
      rest.1,
    )

single : (ps : Parts) → count ps ≡ 1 → (e : Expr) × (parts_commands ps ≡ commands e)
single no_parts h = absurd (omega (arith, h))
single (no_parts ▸ e) h = (e, refl)
single ((ps ▸ d) ▸ e) h = absurd (omega (arith, h))

in_order_operands : (free : ℕ) (s : Standing) (cs : List PatternCommand) → InOrderFrom free s cs → AllByRecursion PatternOperands cs
in_order_operands free s [] i = tt
in_order_operands free s (c ∷ cs) i = (i.0, in_order_operands (free - 1) (after s c) cs i.4)

in_order_count : (free : ℕ) (s : Standing) (cs : List PatternCommand) → InOrderFrom free s cs → length cs ≤ free
in_order_count free s [] i = omega arith
in_order_count free s (c ∷ cs) i = omega (arith, i.3, in_order_count (free - 1) (after s c) cs i.4)

in_order_positions : (free : ℕ) (s : Standing) (cs : List PatternCommand) → length s.positions ≤ 64 → InOrderFrom free s cs → length (standing_from s cs).positions ≤ 64
in_order_positions free s [] h i = h
in_order_positions free s (c ∷ cs) h i = in_order_positions (free - 1) (after s c) cs i.2 i.4

pub assemble : (room : ℕ) (cs : List PatternCommand) → InOrder room cs → (standing cs).pending ≡ 1 → (e : Expr) × (commands e ≡ cs) × Limits room e
assemble room cs i one =
    let a = assembled (min room 512) start cs no_parts i refl in
    let e = single (build no_parts cs) (a.1 ∙ one) in
    let is : commands e.0 ≡ cs = sym e.1 ∙ a.0 in
    let few = in_order_count (min room 512) start cs i in
    let named = in_order_positions (min room 512) start cs (omega arith) i in (
      e.0,
      is,
      record {
        operands = subst (AllByRecursion PatternOperands) (sym is) (in_order_operands (min room 512) start cs i);
        few_commands = subst (λ l. length l ≤ 512) (sym is) (omega (arith, few));
        fits_table = subst (λ l. length l ≤ room) (sym is) (omega (arith, few));
        few_positions = subst (λ l. length (positions l) ≤ 64) (sym is) (subst (λ l. length l ≤ 64) (standing_positions start cs) named);
      },
    )
