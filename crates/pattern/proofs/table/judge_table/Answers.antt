use Rattle.std.proofs.Common.{◌≡◌, length, arith}
use Rattle.format.proofs.Exits.{at_exit}
use Rattle.pattern.proofs.TableCompleting.{no_table}
use Rattle.pattern.proofs.TableTurns.{bad_entry, one_more, whole, table_of, not_whole}
use Rattle.pattern.proofs.table.judge_table.Goals as goal

pub loop-i-preserved : goal.loop-i-preserved
loop-i-preserved c =
    let k = c.in_ok-admit_entry.ensures in
    one_more c.loop-i.invariant _ k.0 c.admit_entry.new.self c.loop-i-test.true k.3 k.1 k.2 k.4 k.5 k.6

pub returns-in_err-admit_entry : goal.returns-in_err-admit_entry
returns-in_err-admit_entry c =
    let bad = bad_entry c.loop-i.invariant _ _ c.loop-i-test.true c.in_err-admit_entry.ensures in
    record {
      answer = at_exit _ _ c.from_residual.result _ c.from_residual.ensures.1 bad;
      law = at_exit _ _ c.from_residual.result _ c.from_residual.ensures.1 (no_table c.args.table.now _ bad);
    }

pub returns-in_err-finish : goal.returns-in_err-finish
returns-in_err-finish c =
    let end : length c.args.table.now ≡ c.loop-i.i = omega arith in
    let bad = not_whole c.loop-i.invariant (length c.args.table.now) _ end c.loop-i-test.false c.in_err-finish.ensures.0 c.in_err-finish.ensures.1 in
    record {
      answer = at_exit _ _ c.from_residual-in_err-finish.result _ c.from_residual-in_err-finish.ensures.1 bad;
      law = at_exit _ _ c.from_residual-in_err-finish.result _ c.from_residual-in_err-finish.ensures.1 (no_table c.args.table.now _ bad);
    }

pub returns : goal.returns
returns c =
    record {
      answer = whole c.loop-i.invariant c.loop-i-test.false c.in_ok-finish.ensures;
      law = table_of c.loop-i.invariant c.loop-i-test.false c.in_ok-finish.ensures;
    }
