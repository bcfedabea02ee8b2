use Rattle.links.proofs.WorkedCases.{worked_cases}
use Rattle.links.proofs.theorems.worked_cases_stand.Goals as goal

pub returns : goal.returns
returns c = worked_cases
