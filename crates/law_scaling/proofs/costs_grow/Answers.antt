use Rattle.law_scaling.proofs.Shared.Cheap.{parts-more}
use Rattle.law_scaling.proofs.costs_grow.Goals as goal

pub returns : goal.returns
returns c = λ f v w below. parts-more f v w below
