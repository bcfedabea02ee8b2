use Rattle.std.proofs.Common.{◌^◌, ◌<◌, sym, rules}
use Rattle.links.proofs.Bits.{holds_past}
use Rattle.links.proofs.row.has.Goals as goal

pub returns-then-position-ge64 : goal.returns-then-position-ge64
returns-then-position-ge64 c =
    let fits : c.args.row < 2 ^ 64 = search rules in
    sym (holds_past c.args.position c.args.row c.if-position-ge64.true fits)
