use Rattle.std.proofs.Common.{string_bytes, arith}
use Rattle.pattern.proofs.Completing.{bytes_few}
use Rattle.format.proofs.Exits.{at_exit}
use Rattle.listing.proofs.Lines.{one_more, short, no_lines}
use Rattle.listing.proofs.list.push_commands.Goals as goal

pub returns-in_err-command : goal.returns-in_err-command
returns-in_err-command c =
    at_exit _ _ c.from_residual.result _ c.from_residual.ensures.1
    (no_lines c.args.table.now c.loop-i.i _ c.loop-i-test.true c.in_err-command.ensures.stands)

pub overflow_add-at : goal.overflow_add-at
overflow_add-at c = record { fits = omega (arith, short c.loop-i.invariant, c.width.ensures, bytes_few c.in_ok-command.command) }

pub loop-i-preserved : goal.loop-i-preserved
loop-i-preserved c =
    one_more c.loop-i.invariant _ c.in_ok-command.command (string_bytes c.writeln.new.self) c.width.result c.loop-i-test.true c.in_ok-command.ensures.stands.1 c.in_ok-writeln.ensures.bytes c.width.ensures
