use Rattle.pattern.proofs.TableTurns.{Tabled}
use Rattle.pattern.proofs.table.judge_table.Given as goal

abbrev pub invariant-loop-i : goal.invariant-loop-i
invariant-loop-i l = Tabled l.table l.i l.judge
