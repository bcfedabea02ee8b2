use Rattle.format.specs.Commands.{map_bytes, MapOperands}
use Rattle.format.specs.Reading.{map_first}
use Rattle.format.proofs.MapSpelling.{map_spelled, map_read}
use Rattle.format.proofs.StandsAt.{begins_so}
use Rattle.format.proofs.bytes.MapCommandCommand.first.Goals as goal

pub returns-clause-begins : goal.returns-clause-begins
returns-clause-begins c =
    begins_so map_bytes MapOperands map_first map_spelled map_read c.args.at c.args.bytes.now (λ i. (c.type_inv.bytes i).fits) c.first_map_command.result c.first_map_command.ensures
