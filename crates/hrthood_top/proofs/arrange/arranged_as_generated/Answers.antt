use Rattle.hrthood_top.proofs.ArrangeLaws.{writes-as-generated, can-where-generated}
use Rattle.hrthood_top.proofs.arrange.arranged_as_generated.Goals as goal

pub returns-clause-same : goal.returns-clause-same
returns-clause-same c = writes-as-generated

pub returns-clause-can : goal.returns-clause-can
returns-clause-can c = can-where-generated
