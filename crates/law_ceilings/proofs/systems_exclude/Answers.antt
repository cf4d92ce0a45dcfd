use Rattle.law_ceilings.proofs.Shared.Programs.{free-step}
use Rattle.law_ceilings.proofs.Shared.Turning.{rest-exclusive}
use Rattle.law_ceilings.proofs.Holding.{run-safe}
use Rattle.law_ceilings.proofs.systems_exclude.Goals as goal

pub returns : goal.returns
returns c = λ y as' ex. (λ told rest. rest-exclusive y as' ex told rest, λ n. free-step y as' ex n, λ n. run-safe y as' ex n)
