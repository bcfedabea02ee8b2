use Rattle.std.proofs.Common.{◌≡◌, List, Ok, string_bytes, Result, ap, ◌∙◌, subst, MatchResult}
use Rattle.format.specs.declared.command.PatternCommand.{PatternCommand}
use Rattle.format.specs.declared.fault.PatternFault.{PatternFault}
use Rattle.pattern.specs.Judging.{judged}
use Rattle.pattern.specs.Patterns.{counted}
use Rattle.format.proofs.Exits.{at_exit}
use Rattle.listing.specs.Listings.{Fails}
use Rattle.listing.specs.Text.{listing}
use Rattle.listing.proofs.Wholes.{same_judged, judged_fault}
use Rattle.listing.proofs.list.list_file.Goals as goal

pub returns-in_err-count : goal.returns-in_err-count
returns-in_err-count c =
    at_exit _ _ c.from_residual.result _ c.from_residual.ensures.1
    (judged_fault (judged 512 c.args.file.now) _ (c.in_err-count.ensures.answer ∙ ap (λ n. counted (judged n c.args.file.now)) c.requires))

pub returns : goal.returns
returns c =
    subst
    (λ (j : Result (List PatternCommand) PatternFault). MatchResult c.list.result (λ s. (cs : List PatternCommand) × (j ≡ Ok cs) × (string_bytes s ≡ listing cs)) (λ f. Fails f j))
    (same_judged c.args.file.now c.args.table.now c.read_pattern.new.table c.in_ok-count.count c.requires c.in_ok-count.ensures.law)
    c.list.ensures
