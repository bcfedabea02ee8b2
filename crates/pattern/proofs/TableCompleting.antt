-- The table of an expression within the limits is accepted, so that a table that is refused is no such table.
-- As in proofs/Completing.antt, along the commands. Assumes nothing.
use Rattle.std.proofs.Common.{◌≡◌, ℕ, ◌+◌, ◌-◌, ◌≤◌, eqb, List, [], ◌∷◌, ◌++◌, map, length, Ok, Err, sym, refl, ap, ◌∙◌, subst, append_assoc, append-nil, arith, eq-eqb}
use Rattle.std.proofs.lemmas.List.{length_push}
use Rattle.std.proofs.lemmas.Bool.{cond-true}
use Rattle.std.specs.List.{AllByRecursion}
use Rattle.format.specs.declared.command.PatternCommand.{PatternCommand}
use Rattle.format.specs.declared.command.PatternCommand.TheVariants.{Sum, Leaf, Node, Product, Closure}
use Rattle.format.specs.declared.entry.Entry.{Entry}
use Rattle.format.specs.declared.fault.PatternFault.{PatternFault}
use Rattle.format.specs.Commands.{PatternOperands}
use Rattle.format.specs.Entries.{entry_of, entry_command}
use Rattle.pattern.specs.Expressions.{Expr, commands, table}
use Rattle.pattern.specs.Judging.{Standing, start, after, standing_from, standing, admission, checked, table_from, table_judged}
use Rattle.pattern.specs.Patterns.{Limits, NoTable}
use Rattle.format.specs.Reading.{then, rank_of}
use Rattle.pattern.proofs.Assembling.{standing_positions}
use Rattle.pattern.proofs.Completing.{Fed, fed_whole, positions_grow, admits}
use Rattle.format.proofs.Spelling.{code_taken, rank_read, never}
use Rattle.pattern.proofs.Turns.{standing_push}

-- an entry of a command is read as that command
entry_read : (at : ℕ) (c : PatternCommand) → PatternOperands c → entry_command at (entry_of c) ≡ Ok c
entry_read at Sum h = refl
entry_read at (Leaf code) h = ap (λ r. then r (λ n. Ok (Leaf n))) (code_taken at code h)
entry_read at (Node code rank points) h =
    ap (λ r. then r (λ n. then (rank_of at rank) (λ k. Ok (Node n k points)))) (code_taken at code h.0)
    ∙ ap (λ r. then r (λ k. Ok (Node code k points))) (rank_read at rank h.1)
entry_read at (Product code) h = ap (λ r. then r (λ n. Ok (Product n))) (code_taken at code h)
entry_read at (Closure code) h = ap (λ r. then r (λ n. Ok (Closure n))) (code_taken at code h)

complete : (cs before : List PatternCommand) → AllByRecursion PatternOperands cs → Fed (standing before).pending cs 1 → length before + length cs ≤ 512 → length (standing_from (standing before) cs).positions ≤ 64 → table_from before (map entry_of cs) ≡ Ok (before ++ cs)
complete [] before ops f few named =
    cond-true (eqb (standing before).pending 1) _ _ (eq-eqb (standing before).pending 1 f) ∙ ap Ok (sym (append-nil before))
complete (c ∷ cs) before ops f few named =
    let at = length before in
    let fits : length (after (standing before) c).positions ≤ 64 = omega (arith, positions_grow (after (standing before) c) cs, named) in
    let grown = standing_push start before c in
    let next = λ (d : PatternCommand). table_from (before ++ d ∷ []) (map entry_of cs) in
    ap (λ r. then (checked r (admission (512 - at) at (standing before))) next) (entry_read at c ops.0)
    ∙ ap (λ r. then r next) (admits (512 - at) at (standing before) c f.0 fits (omega (arith, few)))
    ∙ complete cs (before ++ c ∷ []) ops.1
    (subst (λ (s : Standing). Fed s.pending cs 1) (sym grown) f.1)
    (omega (arith, few, length_push before c))
    (subst (λ (s : Standing). length (standing_from s cs).positions ≤ 64) (sym grown) named)
    ∙ ap Ok (append_assoc before (c ∷ []) cs)

pub table_accepts : (entries : List Entry) (e : Expr) → Limits 512 e → entries ≡ table e → table_judged entries ≡ Ok (commands e)
table_accepts entries e l is =
    ap table_judged is
    ∙ complete (commands e) [] l.operands (fed_whole e) (omega (arith, l.few_commands))
    (subst (λ ps. length ps ≤ 64) (sym (standing_positions start (commands e))) l.few_positions)

pub no_table : (entries : List Entry) (f : PatternFault) → table_judged entries ≡ Err f → NoTable entries
no_table entries f h e l is = never f (commands e) (sym h ∙ table_accepts entries e l is)
