use Rattle.law_samples.proofs.Shared.Valid.{sample-valid}
use Rattle.law_samples.proofs.samples_are_valid.Goals as goal

pub returns : goal.returns
returns c = sample-valid
