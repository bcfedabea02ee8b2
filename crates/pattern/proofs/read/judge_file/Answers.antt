use Rattle.std.proofs.Common.{◌≡◌, ◌<◌, length, rules}
use Rattle.format.proofs.Exits.{at_exit}
use Rattle.pattern.proofs.Turns.{bad_bytes, bad_command, one_more, whole, not_whole}
use Rattle.pattern.proofs.read.judge_file.Goals as goal

pub returns-in_err-command-clause-answer : goal.returns-in_err-command-clause-answer
returns-in_err-command-clause-answer c =
    let some : 0 < length c.loop-rest.rest.now = search rules in
    at_exit _ _ c.from_residual.result _ c.from_residual.ensures.1 (bad_bytes c.loop-rest.invariant _ some c.in_err-command.ensures.answer)

pub returns-in_err-admit-clause-answer : goal.returns-in_err-admit-clause-answer
returns-in_err-admit-clause-answer c =
    let some : 0 < length c.loop-rest.rest.now = search rules in
    at_exit _ _ c.from_residual-in_err-admit.result _ c.from_residual-in_err-admit.ensures.1
    (bad_command c.loop-rest.invariant c.in_ok-command.command _ some c.in_ok-command.ensures.answer.0 c.in_err-admit.ensures.0)

pub loop-rest-preserved : goal.loop-rest-preserved
loop-rest-preserved c =
    let some : 0 < length c.loop-rest.rest.now = search rules in
    let k = c.in_ok-admit.ensures in
    one_more c.loop-rest.invariant c.in_ok-command.command c.in_ok-command.behind.now c.admit.new.self c.push.new.self.items some c.in_ok-command.ensures.answer.0 c.in_ok-command.ensures.stands k.0 k.1 k.2 c.push.ensures.items

pub returns-in_err-finish-clause-answer : goal.returns-in_err-finish-clause-answer
returns-in_err-finish-clause-answer c =
    let end : length c.loop-rest.rest.now ≡ 0 = search rules in
    at_exit _ _ c.from_residual-in_err-finish.result _ c.from_residual-in_err-finish.ensures.1
    (not_whole c.loop-rest.invariant _ end c.in_err-finish.ensures.0 c.in_err-finish.ensures.1)

pub returns-clause-answer : goal.returns-clause-answer
returns-clause-answer c =
    let end : length c.loop-rest.rest.now ≡ 0 = search rules in
    whole c.loop-rest.invariant end c.in_ok-finish.ensures
