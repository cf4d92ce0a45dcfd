use Rattle.rt_block.proofs.CauseSteps.{named-served}
use Rattle.rt_block.proofs.tables.facts_of.Goals as goal

pub invariant_of-result-clause-named : goal.invariant_of-result-clause-named
invariant_of-result-clause-named c = named-served c.in_ok-operations.operations c.in_ok-operations.ensures.served
