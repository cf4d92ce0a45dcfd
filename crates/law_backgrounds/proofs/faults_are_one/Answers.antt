use Rattle.law_backgrounds.proofs.Shared.FirstFaults.{one_fault, no_fault}
use Rattle.law_backgrounds.proofs.faults_are_one.Goals as goal

pub returns : goal.returns
returns c = (one_fault, no_fault)
