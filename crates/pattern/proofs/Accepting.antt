-- What is judged of a file is true of it: the commands of an accepted file are in order and spell it, and the
-- fault of a refused file is met behind commands that are in order. By induction on the entries that are free;
-- what is read so far is spelled by the front of the file. Assumes nothing.
use Rattle.std.proofs.Common.{◌≡◌, ℕ, zero, suc, ◌+◌, ◌-◌, ◌<◌, ◌≤◌, min, Bool, true, false, cond, eqb, ltb, List, [], ◌∷◌, ◌++◌, length, drop, Ok, Err, Result, sym, refl, ap, ◌∙◌, subst, ⊎_elim, append_assoc, append-nil, add-zero, arith, ltb-false, eqb-true}
use borrow.Author.Tests.{eqb-false}
use Rattle.std.proofs.lemmas.List.{drop_all, length-append, length-drop, length_push, flat_map_more}
use Rattle.std.proofs.lemmas.Bool.{cases_lt}
use Rattle.format.specs.declared.command.PatternCommand.{PatternCommand}
use Rattle.format.specs.declared.fault.ByteFault.{ByteFault}
use Rattle.format.specs.declared.fault.PatternFault.{PatternFault}
use Rattle.format.specs.declared.fault.PatternFault.TheVariants.{Bytes, PartsMissing, PositionsFull, NotOnePart, TableFull}
use Rattle.format.specs.Commands.{pattern_bytes, takes, PatternOperands}
use Rattle.pattern.specs.Expressions.{spell}
use Rattle.pattern.specs.Judging.{Standing, start, after, standing_from, standing, admission, checked, next_command, ending, judged_from, judged}
use Rattle.pattern.specs.Patterns.{InOrderFrom, InOrder, Met, FirstFault}
use Rattle.format.specs.Reading.{then, pattern_first, pattern_command_at}
use Rattle.format.proofs.StandsAt.{readable}
use Rattle.format.proofs.FileCommands.{pattern_there}
use Rattle.pattern.proofs.FirstFaults.{first_fault}
use Rattle.format.proofs.Spelling.{AllBytes, ways, never, inside}
use Rattle.pattern.proofs.Turns.{judged_end, judged_bytes, judged_refused, judged_more}

-- a command that is in order
pub admitted : (free at : ℕ) (s : Standing) (c d : PatternCommand) → admission free at s c ≡ Ok d → (d ≡ c) × (takes c ≤ s.pending) × (length (after s c).positions ≤ 64) × (free ≡ 0 → ⊥)
admitted free at s c d e =
    ⊎_elim (λ w. never (PartsMissing at) d w.1)
    (λ u. ⊎_elim (λ w. never (PositionsFull at) d w.1)
    (λ v. ⊎_elim (λ w. never (TableFull at) d w.1)
    (λ w. (sym (inside c d w.1), ltb-false s.pending (takes c) u.0, ltb-false 64 (length (after s c).positions) v.0, eqb-false free 0 w.0))
    (ways (eqb free 0) _ _ (Ok d) v.1))
    (ways (ltb 64 (length (after s c).positions)) _ _ (Ok d) u.1))
    (ways (ltb s.pending (takes c)) _ _ (Ok d) e)

positive : (n : ℕ) → (n ≡ 0 → ⊥) → (m : ℕ) × (n ≡ suc m)
positive zero h = absurd (h refl)
positive (suc m) h = (m, refl)

-- commands in order, and one more
pub in_order_push : (free : ℕ) (s : Standing) (cs : List PatternCommand) (c : PatternCommand) → InOrderFrom free s cs → PatternOperands c → takes c ≤ (standing_from s cs).pending → length (after (standing_from s cs) c).positions ≤ 64 → 0 < free - length cs → InOrderFrom free s (cs ++ c ∷ [])
in_order_push free s [] c i o t p f = (o, t, p, omega arith, tt)
in_order_push free s (d ∷ cs) c i o t p f =
    (i.0, i.1, i.2, i.3, in_order_push (free - 1) (after s d) cs c i.4 o t p (omega arith))

pub spell_push : (cs : List PatternCommand) (c : PatternCommand) → spell (cs ++ c ∷ []) ≡ spell cs ++ pattern_bytes c
spell_push cs c = sym (flat_map_more pattern_bytes [] cs c)

-- a fault of the next command, of whose bytes there is one at least
met_here : (room : ℕ) (file : List ℕ) (before : List PatternCommand) (rest : List ℕ) (f : PatternFault) → 0 < length rest → checked (pattern_first (length (spell before)) rest) (admission (min room 512 - length before) (length (spell before)) (standing before)) ≡ Err f → Met room file before rest f
met_here room file before [] f h e = absurd (omega arith)
met_here room file before (b ∷ bs) f h e = first_fault (min room 512 - length before) (length (spell before)) (standing before) f b bs e

-- What is known of a file when it is judged.
pub record Whole (room : ℕ) (file : List ℕ) (cs : List PatternCommand) : Type 0 where
  pub spelled : file ≡ spell cs
  pub in_order : InOrder room cs
  pub one : (standing cs).pending ≡ 1

abbrev pub Outcome : ℕ → List ℕ → Result (List PatternCommand) PatternFault → Type 0
Outcome room file (Ok cs) = Whole room file cs
Outcome room file (Err f) = FirstFault room file f

-- The commands `before` are read, and the place `at` is reached, with `free` entries left.
record Reading (room : ℕ) (file : List ℕ) (free : ℕ) (before : List PatternCommand) (at : ℕ) : Type 0 where
  begins : file ≡ spell before ++ drop at file
  place : length (spell before) ≡ at
  in_order : InOrder room before
  table : free + length before ≡ min room 512

module _ (room : ℕ) (file : List ℕ) (short : length file ≤ 65536) (all : AllBytes file) where
  at_end : (free : ℕ) (before : List PatternCommand) (at : ℕ) → Reading room file free before at → length file ≤ at → Outcome room file (ending before at)
  at_end free before at rd h =
      let none = drop_all at file h in
      let whole : file ≡ spell before = rd.begins ∙ ap (λ l. spell before ++ l) none ∙ append-nil (spell before) in
      let long : at ≡ length file = sym rd.place ∙ ap length (sym whole) in
      go none whole long (eqb (standing before).pending 1) refl
    where
      go : drop at file ≡ [] → file ≡ spell before → at ≡ length file → (b : Bool) → eqb (standing before).pending 1 ≡ b → Outcome room file (cond b (Ok before) (Err (NotOnePart at (standing before).pending)))
      go none whole long true e = record { spelled = whole; in_order = rd.in_order; one = eqb-true (standing before).pending 1 e }
      go none whole long false e =
          record {
            before = before;
            rest = [];
            short = short;
            begins = whole ∙ sym (append-nil (spell before));
            in_order = rd.in_order;
            met = (eqb-false (standing before).pending 1 e, ap (λ n. NotOnePart n (standing before).pending) long);
          }

  at_fault : (free : ℕ) (before : List PatternCommand) (at : ℕ) (f : PatternFault) → Reading room file free before at → at < length file → next_command free file (standing before) at ≡ Err f → FirstFault room file f
  at_fault free before at f rd h e =
      let left : free ≡ min room 512 - length before = omega (arith, rd.table) in
      let more : 0 < length (drop at file) = omega (arith, length-drop at file) in
      record {
        before = before;
        rest = drop at file;
        short = short;
        begins = rd.begins;
        in_order = rd.in_order;
        met =
            met_here room file before (drop at file) f more
            (ap (λ n. checked (pattern_first n (drop at file)) (admission (min room 512 - length before) n (standing before))) rd.place
            ∙ ap (λ n. checked (pattern_first at (drop at file)) (admission n at (standing before))) (sym left)
            ∙ ap (λ r. checked (then r (pattern_first at)) (admission free at (standing before))) (sym (readable file at short h))
            ∙ e);
      }

  read_on : (free n : ℕ) (before : List PatternCommand) (at : ℕ) (c : PatternCommand) → Reading room file free before at → free ≡ suc n → pattern_command_at file at ≡ Ok c → takes c ≤ (standing before).pending → length (after (standing before) c).positions ≤ 64 → Reading room file n (before ++ c ∷ []) (at + length (pattern_bytes c))
  read_on free n before at c rd left e t p =
      let there = pattern_there file at c all e in
      let w = length (pattern_bytes c) in
      record {
        begins =
            rd.begins ∙ ap (λ l. spell before ++ l) there.here
            ∙ sym (append_assoc (spell before) (pattern_bytes c) (drop (at + w) file))
            ∙ ap (λ l. l ++ drop (at + w) file) (sym (spell_push before c));
        place = ap length (spell_push before c) ∙ length-append (spell before) (pattern_bytes c) ∙ ap (λ k. k + w) rd.place;
        in_order = in_order_push (min room 512) start before c rd.in_order there.operands t p (omega (arith, rd.table, left));
        table = ap (λ k. n + k) (length_push before c) ∙ omega (arith, rd.table, left);
      }

  turn : (free : ℕ) (before : List PatternCommand) (at : ℕ) → Reading room file free before at → at < length file → ((n : ℕ) → free ≡ suc n → (c : PatternCommand) → Reading room file n (before ++ c ∷ []) (at + length (pattern_bytes c)) → Outcome room file (judged_from n file (before ++ c ∷ []) (at + length (pattern_bytes c)))) → Outcome room file (judged_from free file before at)
  turn free before at rd h more = bytes (pattern_command_at file at) refl
    where
      command : (c : PatternCommand) → pattern_command_at file at ≡ Ok c → (r : Result PatternCommand PatternFault) → admission free at (standing before) c ≡ r → Outcome room file (judged_from free file before at)
      command c e (Err f) r =
          subst (Outcome room file) (sym (judged_refused free file before at h c f e r))
          (at_fault free before at f rd h (ap (λ x. checked x (admission free at (standing before))) e ∙ r))
      command c e (Ok d) r =
          let a = admitted free at (standing before) c d r in
          let n = positive free a.3 in
          let is : admission free at (standing before) c ≡ Ok c = r ∙ ap Ok a.0 in
          subst (Outcome room file) (sym (judged_more free file before at h c n.0 e is n.1))
          (more n.0 n.1 c (read_on free n.0 before at c rd n.1 e a.1 a.2))

      bytes : (r : Result PatternCommand ByteFault) → pattern_command_at file at ≡ r → Outcome room file (judged_from free file before at)
      bytes (Err b) e =
          subst (Outcome room file) (sym (judged_bytes free file before at h b e))
          (at_fault free before at (Bytes b) rd h (ap (λ x. checked x (admission free at (standing before))) e))
      bytes (Ok c) e = command c e (admission free at (standing before) c) refl

  ended : (free : ℕ) (before : List PatternCommand) (at : ℕ) → Reading room file free before at → length file ≤ at → Outcome room file (judged_from free file before at)
  ended free before at rd h = subst (Outcome room file) (sym (judged_end free file before at h)) (at_end free before at rd h)

  judge : (free : ℕ) (before : List PatternCommand) (at : ℕ) → Reading room file free before at → Outcome room file (judged_from free file before at)
  judge zero before at rd =
      ⊎_elim (λ h. turn zero before at rd h (λ n e. absurd (omega (arith, e)))) (λ h. ended zero before at rd h) (cases_lt at (length file))
  judge (suc n) before at rd =
      ⊎_elim
      (λ h. turn (suc n) before at rd h
      (λ m e c next.
      let same : n ≡ m = omega (arith, e) in
      let w = at + length (pattern_bytes c) in
      subst (λ k. Outcome room file (judged_from k file (before ++ c ∷ []) w)) same
      (judge n (before ++ c ∷ []) w (subst (λ k. Reading room file k (before ++ c ∷ []) w) (sym same) next))))
      (λ h. ended (suc n) before at rd h)
      (cases_lt at (length file))

  pub outcome : Outcome room file (judged room file)
  outcome = judge (min room 512) [] 0 (record { begins = refl; place = refl; in_order = tt; table = add-zero (min room 512) })
