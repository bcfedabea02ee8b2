-- From what a file is judged to be to what reading it promises: an accepted file is the bytes of one pattern
-- within the limits, and a refused one has its first fault and is no such pattern. Assumes nothing.
use Rattle.std.proofs.Common.{◌≡◌, ℕ, ◌<◌, min, ltb, ◌⊎◌, List, [], ◌++◌, map, length, drop, Ok, Err, Result, sym, refl, ap, ◌∙◌, subst, inl, inr, ⊎_elim, arith, lt-ltb, MatchResult}
use Rattle.std.proofs.lemmas.Bool.{cases_lt, cond-true}
use Rattle.format.specs.declared.command.PatternCommand.{PatternCommand}
use Rattle.format.specs.declared.entry.Entry.{Entry}
use Rattle.format.specs.declared.fault.ByteFault.TheVariants.{FileTooLong}
use Rattle.format.specs.declared.fault.PatternFault.{PatternFault}
use Rattle.format.specs.declared.fault.PatternFault.TheVariants.{Bytes}
use Rattle.format.specs.Entries.{entry_of}
use Rattle.pattern.specs.Expressions.{commands, encode, spell}
use Rattle.pattern.specs.Judging.{judged}
use Rattle.pattern.specs.Patterns.{Accepted, FirstFault, Refused, counted, filled_by}
use Rattle.format.specs.Reading.{then, pattern_first}
use Rattle.pattern.proofs.Accepting.{Outcome, Whole, outcome}
use Rattle.pattern.proofs.Assembling.{assemble}
use Rattle.pattern.proofs.Completing.{accepts}
use Rattle.pattern.proofs.Distinct.{one_meaning}
use Rattle.format.proofs.Spelling.{AllBytes, never}
use Rattle.pattern.proofs.Turns.{judged_bytes}

-- a file that is too long
too_long : (room : ℕ) (file : List ℕ) → 65536 < length file → judged room file ≡ Err (Bytes FileTooLong)
too_long room file h =
    judged_bytes (min room 512) file [] 0 (omega arith) FileTooLong
    (ap (λ r. then r (pattern_first 0)) (cond-true (ltb 65536 (length file)) _ _ (lt-ltb 65536 (length file) h)))

same_fault : (f g : PatternFault) → ◌≡◌ {A = Result (List PatternCommand) PatternFault} (Err f) (Err g) → f ≡ g
same_fault f g e = cc

module _ (room : ℕ) (file : List ℕ) (all : AllBytes file) where
  whole : (cs : List PatternCommand) → judged room file ≡ Ok cs → Whole room file cs
  whole cs e =
      ⊎_elim (λ h. never (Bytes FileTooLong) cs (sym (too_long room file h) ∙ e))
      (λ h. subst (Outcome room file) e (outcome room file h all))
      (cases_lt 65536 (length file))

  fault : (f : PatternFault) → judged room file ≡ Err f → ((65536 < length file) × (f ≡ Bytes FileTooLong)) ⊎ FirstFault room file f
  fault f e =
      ⊎_elim (λ h. inl (h, same_fault f (Bytes FileTooLong) (sym e ∙ too_long room file h)))
      (λ h. inr (subst (Outcome room file) e (outcome room file h all)))
      (cases_lt 65536 (length file))

  pub refused : (f : PatternFault) → judged room file ≡ Err f → Refused room file f
  refused f e = record { fault = fault f e; no_pattern = λ p l h. never f (commands p) (sym e ∙ accepts room file p l h) }

pub accepted : (file : List ℕ) (before now : List Entry) (cs : List PatternCommand) → AllBytes file → judged (length before) file ≡ Ok cs → now ≡ map entry_of cs ++ drop (length cs) before → Accepted file before now (length cs)
accepted file before now cs all e filled =
    let w = whole (length before) file all cs e in
    let p = assemble (length before) cs w.in_order w.one in
    let bytes : file ≡ encode p.0 = w.spelled ∙ ap spell (sym p.1) in
    record {
      pattern = p.0;
      limits = p.2;
      bytes = bytes;
      number = ap length (sym p.1);
      filled = filled ∙ ap (λ l. map entry_of l ++ drop (length cs) before) (sym p.1);
      alone = λ q h. one_meaning q p.0 (sym h ∙ bytes);
    }

-- The law of reading, from the answer and what the table holds.
pub law : (file : List ℕ) (before now : List Entry) (r : Result ℕ PatternFault) → AllBytes file → r ≡ counted (judged (length before) file) → now ≡ filled_by (judged (length before) file) before → MatchResult r (Accepted file before now) (Refused (length before) file)
law file before now r all answer filled = go (judged (length before) file) refl answer filled
  where
    go : (j : Result (List PatternCommand) PatternFault) → judged (length before) file ≡ j → r ≡ counted j → now ≡ filled_by j before → MatchResult r (Accepted file before now) (Refused (length before) file)
    go (Ok cs) e a f = subst (λ x. MatchResult x (Accepted file before now) (Refused (length before) file)) (sym a) (accepted file before now cs all e f)
    go (Err g) e a f = subst (λ x. MatchResult x (Accepted file before now) (Refused (length before) file)) (sym a) (refused (length before) file all g e)
