use Rattle.law_traces.proofs.Shared.Joins.{all-decided}
use Rattle.law_traces.proofs.parts_are_decided.Goals as goal

pub returns : goal.returns
returns c = λ w clear r trace. all-decided w clear r trace
