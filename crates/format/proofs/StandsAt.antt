-- What the readers of a command answer of a whole file: a command exactly where it stands. Once for both kinds
-- of file, from what is known of the first command of some bytes. Assumes nothing.
use Rattle.std.proofs.Common.{◌≡◌, ℕ, ◌+◌, ◌<◌, ◌≤◌, ltb, leb, List, ◌++◌, length, drop, Ok, Err, Result, sym, ap, ◌∙◌, subst, ⊎_elim, arith, Bor, ltb-false, leb-false, le-ltb, MatchResult}
use borrow.Author.Tests.{lt-leb}
use Rattle.std.proofs.lemmas.Bool.{cond-false}
use Rattle.std.proofs.lemmas.List.{drop-drop, get_or-drop, length-drop, length-append}
use Rattle.std.proofs.lemmas.Result.{MatchResult-weaker}
use Rattle.format.specs.declared.fault.ByteFault.{ByteFault}
use Rattle.format.specs.declared.fault.ByteFault.TheVariants.{FileTooLong, NoCommand}
use Rattle.format.specs.Reading.{then, bytes_from, Begins, StandsAt}
use Rattle.format.proofs.Spelling.{AllBytes, Spelled, ways, never, inside, then_known}

-- A file that is not too long is read at each of its places.
pub readable : (file : List ℕ) (at : ℕ) → length file ≤ 65536 → at < length file → bytes_from file at ≡ Ok (drop at file)
readable file at short inside =
    cond-false (ltb 65536 (length file)) _ _ (le-ltb 65536 (length file) short)
    ∙ cond-false (leb (length file) at) _ _ (lt-leb (length file) at inside)

-- what is readable, and from where
from_known : (file : List ℕ) (at : ℕ) (bs : List ℕ) → bytes_from file at ≡ Ok bs → (length file ≤ 65536) × (at < length file) × (drop at file ≡ bs)
from_known file at bs e =
    ⊎_elim (λ w. never FileTooLong bs w.1)
    (λ v. ⊎_elim (λ w. never (NoCommand at) bs w.1)
    (λ w. (ltb-false 65536 (length file) v.0, leb-false (length file) at w.0, inside (drop at file) bs w.1))
    (ways (leb (length file) at) _ _ (Ok bs) v.1))
    (ways (ltb 65536 (length file)) _ _ (Ok bs) e)

drop_bytes : (file : List ℕ) (at : ℕ) → AllBytes file → AllBytes (drop at file)
drop_bytes file at all i = subst (λ n. n < 256) (sym (get_or-drop at file i 0)) (all (at + i))

module _ {C : Type 0} (bytes_of : C → List ℕ) (Operands : C → Type 0) (first : ℕ → List ℕ → Result C ByteFault)
    (some : (c : C) → 0 < length (bytes_of c))
    (spelled : (at : ℕ) (bs : List ℕ) (c : C) → AllBytes bs → first at bs ≡ Ok c → Spelled bytes_of Operands bs c)
    (reads : (at : ℕ) (c : C) (rest : List ℕ) → Operands c → first at (bytes_of c ++ rest) ≡ Ok c)
  where
    pub stands_there : (file : List ℕ) (at : ℕ) (c : C) → AllBytes file → then (bytes_from file at) (first at) ≡ Ok c → StandsAt bytes_of Operands file at c (drop (at + length (bytes_of c)) file)
    stands_there file at c all e =
        let k = then_known (bytes_from file at) (first at) c e in
        let f = from_known file at k.0 k.1 in
        let s = spelled at (drop at file) c (drop_bytes file at all) (subst (λ bs. first at bs ≡ Ok c) (sym f.2) k.2) in
        record { short = f.0; here = s.0 ∙ ap (λ l. bytes_of c ++ l) (drop-drop (length (bytes_of c)) at file); operands = s.1 }

    pub read_there : (file : List ℕ) (at : ℕ) (c : C) (rest : List ℕ) → StandsAt bytes_of Operands file at c rest → then (bytes_from file at) (first at) ≡ Ok c
    read_there file at c rest s =
        let long = ap length s.here ∙ length-append (bytes_of c) rest in
        let within : at < length file = omega (arith, length-drop at file, long, some c) in
        ap (λ r. then r (first at)) (readable file at s.short within) ∙ ap (first at) s.here ∙ reads at c rest s.operands

-- From the answer on the first command of some bytes to what they begin with.
pub begins_so : {C : Type 0} (bytes_of : C → List ℕ) (Operands : C → Type 0) (first : ℕ → List ℕ → Result C ByteFault) → ((at : ℕ) (bs : List ℕ) (c : C) → AllBytes bs → first at bs ≡ Ok c → Spelled bytes_of Operands bs c) → ((at : ℕ) (c : C) (rest : List ℕ) → Operands c → first at (bytes_of c ++ rest) ≡ Ok c) → (at : ℕ) (bs : List ℕ) → AllBytes bs → (r : Result (C × Bor (List ℕ)) ByteFault) → MatchResult r (λ v. (first at bs ≡ Ok v.0) × (v.1.now ≡ drop (length (bytes_of v.0)) bs)) (λ f. first at bs ≡ Err f) → MatchResult r (λ v. Begins bytes_of Operands bs v.0 v.1.now) (λ _. (c : C) (rest : List ℕ) → Begins bytes_of Operands bs c rest → ⊥)
begins_so bytes_of Operands first spelled reads at bs all r h =
    MatchResult-weaker r h
    (λ v k. let s = spelled at bs v.0 all k.0 in record { here = s.0 ∙ ap (λ l. bytes_of v.0 ++ l) (sym k.1); operands = s.1 })
    (λ f k c rest b. never f c (sym k ∙ ap (first at) b.here ∙ reads at c rest b.operands))

-- Where the bytes of a place can't be read, no command stands.
pub nothing_there : {C : Type 0} (bytes_of : C → List ℕ) (Operands : C → Type 0) → ((c : C) → 0 < length (bytes_of c)) → (file : List ℕ) (at : ℕ) (f : ByteFault) → bytes_from file at ≡ Err f → (c : C) (rest : List ℕ) → StandsAt bytes_of Operands file at c rest → ⊥
nothing_there bytes_of Operands some file at f e c rest s =
    let long = ap length s.here ∙ length-append (bytes_of c) rest in
    let within : at < length file = omega (arith, length-drop at file, long, some c) in
    never f (drop at file) (sym e ∙ readable file at s.short within)
