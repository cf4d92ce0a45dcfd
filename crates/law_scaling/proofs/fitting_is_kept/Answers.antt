use Rattle.law_scaling.proofs.Solutions.{fits-less}
use Rattle.law_scaling.proofs.fitting_is_kept.Goals as goal

pub returns : goal.returns
returns c = fits-less
