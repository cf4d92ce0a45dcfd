use Rattle.law_releases.proofs.Shared.ArrivalsTold.{are_told}
use Rattle.law_releases.proofs.arrivals_are_told.Goals as goal

pub returns : goal.returns
returns c = are_told
