use Rattle.law_traces.proofs.Shared.Joins.{in-parts}
use Rattle.law_traces.proofs.machine_is_its_parts.Goals as goal

pub returns : goal.returns
returns c = λ w clear r trace. in-parts w clear r trace
