use Rattle.law_scaling.proofs.Sections.{blocking-more}
use Rattle.law_scaling.proofs.blocking_grows.Goals as goal

pub returns : goal.returns
returns c = λ f v w ps level below. blocking-more f v w below ps level
