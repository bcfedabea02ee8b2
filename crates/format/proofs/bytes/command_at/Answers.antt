use Rattle.format.proofs.Exits.{at_exit}
use Rattle.format.proofs.StandsAt.{nothing_there}
use Rattle.format.proofs.bytes.command_at.Goals as goal

pub returns-in_err-bytes_from-clause-stands : goal.returns-in_err-bytes_from-clause-stands
returns-in_err-bytes_from-clause-stands g c =
    let k = g.C.Command in
    at_exit _ _ c.from_residual.result _ c.from_residual.ensures.1 (nothing_there k.bytes_of k.Operands g.met.C.Command.some c.args.file.now c.args.at _ c.in_err-bytes_from.ensures)
