-- Judging a file, one command after another: what one turn does to `judged_from`, and what is left to judge at
-- each turn answers for the whole file. Assumes nothing.
use Rattle.std.proofs.Common.{◌≡◌, ℕ, zero, suc, ◌+◌, ◌-◌, ◌<◌, ◌≤◌, min, eqb, leb, List, [], ◌∷◌, ◌++◌, length, Ok, Err, Result, sym, refl, ap, ◌∙◌, add-zero, add-one, arith, eq-eqb, ne_eqb, le-leb}
use borrow.Author.Tests.{lt-leb}
use Rattle.std.proofs.lemmas.List.{length_push, length-drop, length-append}
use Rattle.std.proofs.lemmas.Bool.{cond-true, cond-false}
use Rattle.format.specs.declared.command.PatternCommand.{PatternCommand}
use Rattle.format.specs.declared.fault.ByteFault.{ByteFault}
use Rattle.format.specs.declared.fault.PatternFault.{PatternFault}
use Rattle.format.specs.declared.fault.PatternFault.TheVariants.{Bytes, NotOnePart, TableFull}
use Rattle.pattern.specs.declared.judge.Judge.{Judge}
use Rattle.format.specs.Commands.{pattern_bytes, PatternOperands}
use Rattle.pattern.specs.Judging.{Standing, start, after, standing_from, standing, admission, checked, next_command, ending, judged_from, judged}
use Rattle.format.specs.Reading.{then, pattern_command_at, StandsAt}
use Rattle.pattern.specs.Stands.{stands}
use Rattle.format.proofs.FileCommands.{pattern_some}

-- one command more at the end
pub standing_push : (s : Standing) (cs : List PatternCommand) (c : PatternCommand) → standing_from s (cs ++ c ∷ []) ≡ after (standing_from s cs) c
standing_push s [] c = refl
standing_push s (d ∷ cs) c = standing_push (after s d) cs c

-- what follows a command that is in order
next_turn : ℕ → List ℕ → List PatternCommand → ℕ → PatternCommand → Result (List PatternCommand) PatternFault
next_turn zero file before at c = Err (TableFull at)
next_turn (suc free) file before at c = judged_from free file (before ++ c ∷ []) (at + length (pattern_bytes c))

judged_turn : (free : ℕ) (file : List ℕ) (before : List PatternCommand) (at : ℕ) → at < length file → judged_from free file before at ≡ then (next_command free file (standing before) at) (next_turn free file before at)
unfolding next_turn
judged_turn zero file before at h = cond-false (leb (length file) at) _ _ (lt-leb (length file) at h)
judged_turn (suc free) file before at h = cond-false (leb (length file) at) _ _ (lt-leb (length file) at h)

pub judged_end : (free : ℕ) (file : List ℕ) (before : List PatternCommand) (at : ℕ) → length file ≤ at → judged_from free file before at ≡ ending before at
judged_end zero file before at h = cond-true (leb (length file) at) _ _ (le-leb (length file) at h)
judged_end (suc free) file before at h = cond-true (leb (length file) at) _ _ (le-leb (length file) at h)

module _ (free : ℕ) (file : List ℕ) (before : List PatternCommand) (at : ℕ) (h : at < length file) where
  pub judged_bytes : (f : ByteFault) → pattern_command_at file at ≡ Err f → judged_from free file before at ≡ Err (Bytes f)
  judged_bytes f e =
      judged_turn free file before at h
      ∙ ap (λ r. then (checked r (admission free at (standing before))) (next_turn free file before at)) e

  pub judged_refused : (c : PatternCommand) (f : PatternFault) → pattern_command_at file at ≡ Ok c → admission free at (standing before) c ≡ Err f → judged_from free file before at ≡ Err f
  judged_refused c f e r =
      judged_turn free file before at h
      ∙ ap (λ x. then (checked x (admission free at (standing before))) (next_turn free file before at)) e
      ∙ ap (λ x. then x (next_turn free file before at)) r

  pub judged_more : (c : PatternCommand) (n : ℕ) → pattern_command_at file at ≡ Ok c → admission free at (standing before) c ≡ Ok c → free ≡ suc n → judged_from free file before at ≡ judged_from n file (before ++ c ∷ []) (at + length (pattern_bytes c))
  unfolding next_turn
  judged_more c n e r f =
      judged_turn free file before at h
      ∙ ap (λ x. then (checked x (admission free at (standing before))) (next_turn free file before at)) e
      ∙ ap (λ x. then x (next_turn free file before at)) r
      ∙ ap (λ k. next_turn k file before at c) f

-- Where the command ends that stands at `at`.
pub moved : (file : List ℕ) (at : ℕ) (c : PatternCommand) (rest : List ℕ) → at < length file → StandsAt pattern_bytes PatternOperands file at c rest → (length file - length rest ≡ at + length (pattern_bytes c)) × (length rest + at < length file)
moved file at c rest h s =
    let long = sym (length-drop at file) ∙ ap length s.here ∙ length-append (pattern_bytes c) rest in
    (omega (arith, long), omega (arith, long, pattern_some c))

-- where what is left of a file begins
abbrev pub place : List ℕ → List ℕ → ℕ
place file rest = length file - length rest

-- How far the judging of a file has come: the commands `before` are judged, and `rest` is left.
pub record Sofar (room : ℕ) (file : List ℕ) (before : List PatternCommand) (judge : Judge) (rest : List ℕ) : Type 0 where
  pub table : judge.free + length before ≡ min room 512
  pub amounts : stands judge ≡ standing before
  pub left : judged room file ≡ judged_from judge.free file before (place file rest)
  pub within : length rest ≤ length file

pub none_yet : (room : ℕ) (file : List ℕ) (before : List PatternCommand) (judge : Judge) → before ≡ [] → stands judge ≡ start → judge.free ≡ min room 512 → Sofar room file before judge file
none_yet room file before judge none s f =
    let front : 0 ≡ place file file = omega arith in
    record {
      table = ap (λ l. judge.free + length l) none ∙ add-zero judge.free ∙ f;
      amounts = s ∙ ap standing (sym none);
      left = ap (λ n. judged_from n file [] 0) (sym f) ∙ ap (λ l. judged_from judge.free file l 0) (sym none) ∙ ap (judged_from judge.free file before) front;
      within = omega arith;
    }

module _ {room : ℕ} {file : List ℕ} {before : List PatternCommand} {judge : Judge} {rest : List ℕ} (so : Sofar room file before judge rest) where
  -- something is left
  inside : 0 < length rest → place file rest < length file
  inside h = omega (arith, so.within)

  pub bad_bytes : (f : ByteFault) → 0 < length rest → pattern_command_at file (place file rest) ≡ Err f → judged room file ≡ Err (Bytes f)
  bad_bytes f h e = so.left ∙ judged_bytes judge.free file before (place file rest) (inside h) f e

  pub bad_command : (c : PatternCommand) (f : PatternFault) → 0 < length rest → pattern_command_at file (place file rest) ≡ Ok c → admission judge.free (place file rest) (stands judge) c ≡ Err f → judged room file ≡ Err f
  bad_command c f h e r =
      so.left
      ∙ judged_refused judge.free file before (place file rest) (inside h) c f e (ap (λ s. admission judge.free (place file rest) s c) (sym so.amounts) ∙ r)

  pub one_more : (c : PatternCommand) (behind : List ℕ) (next : Judge) (now : List PatternCommand) → 0 < length rest → pattern_command_at file (place file rest) ≡ Ok c → StandsAt pattern_bytes PatternOperands file (place file rest) c behind → admission judge.free (place file rest) (stands judge) c ≡ Ok c → stands next ≡ after (stands judge) c → judge.free ≡ next.free + 1 → now ≡ before ++ c ∷ [] → Sofar room file now next behind
  one_more c behind next now h e s r a f grown =
      let moves = moved file (place file rest) c behind (inside h) s in
      record {
        table = omega (arith, so.table, f, ap length grown ∙ length_push before c);
        amounts = a ∙ ap (λ s. after s c) so.amounts ∙ sym (ap standing grown ∙ standing_push start before c);
        left =
            so.left
            ∙ judged_more judge.free file before (place file rest) (inside h) c next.free e (ap (λ s. admission judge.free (place file rest) s c) (sym so.amounts) ∙ r) (f ∙ add-one next.free)
            ∙ ap (λ l. judged_from next.free file l (place file rest + length (pattern_bytes c))) (sym grown)
            ∙ ap (judged_from next.free file now) (sym moves.0);
        within = omega (arith, moves.1);
      }

  pub whole : length rest ≡ 0 → (stands judge).pending ≡ 1 → judged room file ≡ Ok before
  whole h p =
      so.left ∙ judged_end judge.free file before (place file rest) (omega (arith, h))
      ∙ cond-true (eqb (standing before).pending 1) _ _ (eq-eqb _ 1 (ap (λ (s : Standing). s.pending) (sym so.amounts) ∙ p))

  pub not_whole : (f : PatternFault) → length rest ≡ 0 → ((stands judge).pending ≡ 1 → ⊥) → f ≡ NotOnePart (length file) (stands judge).pending → judged room file ≡ Err f
  not_whole f h p is =
      let end : place file rest ≡ length file = omega (arith, h) in
      so.left ∙ judged_end judge.free file before (place file rest) (omega (arith, h))
      ∙ cond-false (eqb (standing before).pending 1) _ _ (ne_eqb _ 1 (λ q. p (ap (λ (s : Standing). s.pending) so.amounts ∙ q)))
      ∙ ap (λ (s : Standing). Err (NotOnePart (place file rest) s.pending)) (sym so.amounts)
      ∙ ap (λ at. Err (NotOnePart at (stands judge).pending)) end
      ∙ ap Err (sym is)
