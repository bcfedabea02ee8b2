use Rattle.std.proofs.Common.{◌≡◌, sym, ap, ◌∙◌, subst, IfOk, string_bytes}
use Rattle.pattern.specs.Judging.{judged}
use Rattle.listing.specs.Listings.{Fails}
use Rattle.listing.specs.Text.{told}
use Rattle.listing.proofs.list.inspect.Goals as goal

pub returns-in-Ok : goal.returns-in-Ok
returns-in-Ok c =
    let h = c.in-Ok.ensures in
    h.2 ∙ ap told (sym h.1)

pub returns-in-Err-Pattern : goal.returns-in-Err-Pattern
returns-in-Err-Pattern c =
    let judged_so = subst (λ f. Fails f (judged 512 c.args.file.now)) c.in-Err-Pattern.field-0-is c.in-Err-Pattern.ensures in
    subst (λ j. IfOk c.refusal.result (λ s. string_bytes s ≡ told j)) (sym judged_so) c.refusal.ensures
