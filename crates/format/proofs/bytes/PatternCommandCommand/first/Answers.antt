use Rattle.format.specs.Commands.{pattern_bytes, PatternOperands}
use Rattle.format.specs.Reading.{pattern_first}
use Rattle.format.proofs.Spelling.{pattern_spelled, pattern_read}
use Rattle.format.proofs.StandsAt.{begins_so}
use Rattle.format.proofs.bytes.PatternCommandCommand.first.Goals as goal

pub returns-clause-begins : goal.returns-clause-begins
returns-clause-begins c =
    begins_so pattern_bytes PatternOperands pattern_first pattern_spelled pattern_read c.args.at c.args.bytes.now (λ i. (c.type_inv.bytes i).fits) c.first_pattern_command.result c.first_pattern_command.ensures
