use Rattle.std.proofs.Common.{string_bytes, subst}
use Rattle.pattern.specs.Stands.{stands}
use Rattle.listing.specs.Listings.{Lines}
use Rattle.listing.proofs.Wholes.{listed}
use Rattle.listing.proofs.list.list.Goals as goal

pub returns : goal.returns
returns c =
    let table = c.args.table.now in
    let one = string_bytes c.push_commands.new.out in
    let bytes = c.in_ok-bytes.bytes in
    listed table (stands c.in_ok-judge.judge) c.positions-positions.result.now one (string_bytes c.push_positions.new.out) (string_bytes c.push_summary.new.out) bytes
    c.in_ok-judge.ensures.law
    (subst (λ b. Lines table b one bytes) c.new-out.ensures.bytes c.in_ok-bytes.ensures)
    c.positions-positions.ensures
    c.in_ok-push_positions.ensures
    c.in_ok-push_summary.ensures
