use Rattle.std.proofs.Common.{arith}
use Rattle.pattern.specs.Expressions.{commands}
use Rattle.links.proofs.NumberTurns.{next_within, one_numbered, all_numbered, as_many, command_there, no_fault}
use Rattle.links.proofs.link.number_table.Goals as goal

pub returns-in_err-command : goal.returns-in_err-command
returns-in_err-command c =
    absurd
    (no_fault c.requires.ready.pattern c.args.table.now c.requires.ready.holds c.loop-i.i c.loop-i-test.true _ c.requires.ready.limits.operands c.in_err-command.ensures.stands)

pub command-requires-in-loop-i : goal.command-requires-in-loop-i
command-requires-in-loop-i c =
    let e = c.requires.ready.pattern in
    let is = c.requires.ready.holds in
    let within =
    next_within (commands e) c.loop-i.i c.loop-i.numbering c.loop-i.numbered.items (c.loop-i.invariant e is) c.in_ok-command.command
    (omega (arith, c.loop-i-test.true, as_many e c.args.table.now is))
    (command_there e c.args.table.now is c.loop-i.i c.loop-i-test.true _ c.in_ok-command.command c.in_ok-command.ensures.stands.1) in
    record { few = omega (arith, within, c.requires.ready.limits.few_positions) }

pub loop-i-preserved : goal.loop-i-preserved
loop-i-preserved c = λ e is.
    rw (c.push.ensures.items, c.command-in-loop-i.ensures.named, c.command-in-loop-i.ensures.number)
    (one_numbered (commands e) c.loop-i.i c.loop-i.numbering c.loop-i.numbered.items (c.loop-i.invariant e is) c.in_ok-command.command
    (omega (arith, c.loop-i-test.true, as_many e c.args.table.now is))
    (command_there e c.args.table.now is c.loop-i.i c.loop-i-test.true _ c.in_ok-command.command c.in_ok-command.ensures.stands.1))

pub returns : goal.returns
returns c = λ e is.
    all_numbered e c.loop-i.i c.loop-i.numbering c.loop-i.numbered.items (c.loop-i.invariant e is) (omega (arith, as_many e c.args.table.now is))
