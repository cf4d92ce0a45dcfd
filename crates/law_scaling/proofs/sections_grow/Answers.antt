use Rattle.law_scaling.proofs.Sections.{design-longer}
use Rattle.law_scaling.proofs.sections_grow.Goals as goal

pub returns : goal.returns
returns c = λ f v w object b below. design-longer f v w below object b
