-- A clause on an answer, at the exit of a `?`: the fault that came is the fault that goes, inside the type of the
-- caller's faults. Assumes nothing.
use Rattle.std.proofs.Common.{◌≡◌, IsErrAnd, Result, sym, subst, MatchResult}
use Rattle.std.proofs.lemmas.Result.{err_from_is_err_and}

pub at_exit : {T E : Type 0} (P : T → Type 0) (Q : E → Type 0) (r : Result T E) (f : E) → IsErrAnd r (λ y. y ≡ f) → Q f → MatchResult r P Q
at_exit P Q r f e q =
    let p = err_from_is_err_and r e in
    subst (λ x. MatchResult x P Q) (sym p.1) (subst Q (sym p.2) q)
