use Rattle.std.proofs.Common.{length}
use Rattle.pattern.proofs.Turns.{Sofar}
use Rattle.pattern.proofs.read.judge_file.Given as goal

abbrev pub invariant-loop-rest : goal.invariant-loop-rest
invariant-loop-rest l = Sofar l.room l.file l.commands.items l.judge l.rest

abbrev pub decreases-loop-rest : goal.decreases-loop-rest
decreases-loop-rest l = length l.rest
