use Rattle.pattern.proofs.Distinct.{one_meaning}
use Rattle.pattern.proofs.Verdicts.{law}
use Rattle.pattern.proofs.read.read_pattern.Goals as goal

pub returns-clause-law : goal.returns-clause-law
returns-clause-law c =
    let told = c.judge_and_fill.ensures in
    law c.args.file.now c.args.table.now c.judge_and_fill.new.table c.judge_and_fill.result (λ i. (c.type_inv.file i).fits) told.answer told.memory

pub returns-clause-one_meaning : goal.returns-clause-one_meaning
returns-clause-one_meaning c = one_meaning
