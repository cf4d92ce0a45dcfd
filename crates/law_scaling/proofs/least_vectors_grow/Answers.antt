use Rattle.law_scaling.proofs.Solutions.{least-less}
use Rattle.law_scaling.proofs.least_vectors_grow.Goals as goal

pub returns : goal.returns
returns c = least-less
