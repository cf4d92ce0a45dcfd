use Rattle.law_traces.proofs.Shared.Judging.{one-verdict}
use Rattle.law_traces.proofs.verdicts_are_one.Goals as goal

pub returns : goal.returns
returns c = λ w clear p plain r text u v h i. one-verdict w clear p plain r text u v h i
