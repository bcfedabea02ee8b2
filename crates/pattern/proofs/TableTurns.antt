-- Judging a table, one entry after another: what is left to judge at each turn answers for the whole table.
-- Assumes nothing.
use Rattle.std.proofs.Common.{◌≡◌, ℕ, ◌+◌, ◌-◌, ◌<◌, ◌≤◌, eqb, List, [], ◌∷◌, ◌++◌, map, length, get_or, take, drop, Ok, Err, sym, refl, ap, ◌∙◌, arith, eq-eqb, ne_eqb}
use Rattle.std.proofs.lemmas.List.{drop_more, drop_all, length_push, take_more, take_all, map_push}
use Rattle.std.proofs.lemmas.Bool.{cond-true, cond-false}
use Rattle.format.specs.declared.command.PatternCommand.{PatternCommand}
use Rattle.format.specs.declared.entry.Entry.{Entry}
use Rattle.format.specs.declared.fault.PatternFault.{PatternFault}
use Rattle.format.specs.declared.fault.PatternFault.TheVariants.{NotOnePart}
use Rattle.pattern.specs.declared.judge.Judge.{Judge}
use Rattle.format.specs.Commands.{PatternOperands}
use Rattle.format.specs.Entries.{entry_of, entry_command}
use Rattle.format.specs.Reading.{then}
use Rattle.pattern.specs.Judging.{Standing, start, after, standing, admission, checked, ending, table_from, table_judged}
use Rattle.pattern.specs.Patterns.{InOrder, TableOf}
use Rattle.pattern.specs.Positions.{positions}
use Rattle.pattern.specs.Stands.{stands}
use Rattle.pattern.proofs.Accepting.{admitted, in_order_push}
use Rattle.pattern.proofs.Assembling.{assemble, standing_positions}
use Rattle.pattern.proofs.Turns.{standing_push}

-- How far the judging of a table has come: `before` are the commands of the first i entries.
pub record Tabled (table : List Entry) (i : ℕ) (judge : Judge) : Type 0 where
  pub before : List PatternCommand
  pub number : length before ≡ i
  pub free : judge.free + i ≡ 512
  pub amounts : stands judge ≡ standing before
  pub left : table_judged table ≡ table_from before (drop i table)
  pub in_order : InOrder 512 before
  pub holds : take i table ≡ map entry_of before

pub none_yet : (table : List Entry) (judge : Judge) → stands judge ≡ start → judge.free ≡ 512 → Tabled table 0 judge
none_yet table judge s f = record { before = []; number = refl; free = omega (arith, f); amounts = s; left = refl; in_order = tt; holds = refl }

module _ {table : List Entry} {i : ℕ} {judge : Judge} (so : Tabled table i judge) where
  -- the next entry, at any default
  next : (d : Entry) → i < length table → table_judged table ≡ then (checked (entry_command i (get_or table i d)) (admission judge.free i (stands judge))) (λ c. table_from (so.before ++ c ∷ []) (drop (i + 1) table))
  next d h =
      let free : 512 - i ≡ judge.free = omega (arith, so.free) in
      so.left
      ∙ ap (table_from so.before) (drop_more table i d h)
      ∙ ap (λ n. then (checked (entry_command n (get_or table i d)) (admission (512 - n) n (standing so.before))) (λ c. table_from (so.before ++ c ∷ []) (drop (i + 1) table))) so.number
      ∙ ap (λ n. then (checked (entry_command i (get_or table i d)) (admission n i (standing so.before))) (λ c. table_from (so.before ++ c ∷ []) (drop (i + 1) table))) free
      ∙ ap (λ s. then (checked (entry_command i (get_or table i d)) (admission judge.free i s)) (λ c. table_from (so.before ++ c ∷ []) (drop (i + 1) table))) (sym so.amounts)

  pub bad_entry : (d : Entry) (f : PatternFault) → i < length table → checked (entry_command i (get_or table i d)) (admission judge.free i (stands judge)) ≡ Err f → table_judged table ≡ Err f
  bad_entry d f h e = next d h ∙ ap (λ r. then r (λ c. table_from (so.before ++ c ∷ []) (drop (i + 1) table))) e

  pub one_more : (d : Entry) (c : PatternCommand) (j : Judge) → i < length table → entry_command i (get_or table i d) ≡ Ok c → PatternOperands c → get_or table i d ≡ entry_of c → admission judge.free i (stands judge) c ≡ Ok c → stands j ≡ after (stands judge) c → judge.free ≡ j.free + 1 → Tabled table (i + 1) j
  one_more d c j h e operands is r a f =
      let fits = admitted judge.free i (standing so.before) c c (ap (λ s. admission judge.free i s c) (sym so.amounts) ∙ r) in
      record {
        before = so.before ++ c ∷ [];
        number = length_push so.before c ∙ ap (λ n. n + 1) so.number;
        free = omega (arith, so.free, f);
        amounts = a ∙ ap (λ s. after s c) so.amounts ∙ sym (standing_push start so.before c);
        left =
            next d h
            ∙ ap (λ x. then (checked x (admission judge.free i (stands judge))) (λ c. table_from (so.before ++ c ∷ []) (drop (i + 1) table))) e
            ∙ ap (λ x. then x (λ c. table_from (so.before ++ c ∷ []) (drop (i + 1) table))) r;
        in_order = in_order_push 512 start so.before c so.in_order operands fits.1 fits.2 (omega (arith, so.free, so.number, f));
        holds = take_more table i d h ∙ ap (λ l. l ++ get_or table i d ∷ []) so.holds ∙ ap (λ e. map entry_of so.before ++ e ∷ []) is ∙ sym (map_push entry_of so.before c);
      }

  done : length table ≤ i → table_judged table ≡ ending so.before i
  done h = so.left ∙ ap (table_from so.before) (drop_all i table h) ∙ ap (ending so.before) so.number

  pub whole : length table ≤ i → (stands judge).pending ≡ 1 → (cs : List PatternCommand) × (table_judged table ≡ Ok cs) × (stands judge ≡ standing cs)
  whole h p = (
    so.before,
    done h ∙ cond-true (eqb (standing so.before).pending 1) _ _ (eq-eqb _ 1 (ap (λ (s : Standing). s.pending) (sym so.amounts) ∙ p)),
    so.amounts,
  )

  pub table_of : length table ≤ i → (stands judge).pending ≡ 1 → TableOf table (stands judge)
  table_of h p =
      let e = assemble 512 so.before so.in_order (ap (λ (s : Standing). s.pending) (sym so.amounts) ∙ p) in
      record {
        pattern = e.0;
        limits = e.2;
        holds = sym (take_all i table h) ∙ so.holds ∙ ap (map entry_of) (sym e.1);
        amounts = so.amounts ∙ ap standing (sym e.1);
        one = p;
        named = ap (λ (s : Standing). s.positions) so.amounts ∙ standing_positions start so.before ∙ ap positions (sym e.1);
      }

  pub not_whole : (n : ℕ) (f : PatternFault) → n ≡ i → length table ≤ i → ((stands judge).pending ≡ 1 → ⊥) → f ≡ NotOnePart n (stands judge).pending → table_judged table ≡ Err f
  not_whole n f same h p is =
      done h
      ∙ cond-false (eqb (standing so.before).pending 1) _ _ (ne_eqb _ 1 (λ q. p (ap (λ (s : Standing). s.pending) so.amounts ∙ q)))
      ∙ ap (λ k. Err (NotOnePart k (standing so.before).pending)) (sym same)
      ∙ ap (λ (s : Standing). Err (NotOnePart n s.pending)) (sym so.amounts)
      ∙ ap Err (sym is)
