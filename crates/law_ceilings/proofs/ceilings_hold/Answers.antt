use Rattle.law_ceilings.proofs.Shared.Stopping.{rest-goes-on}
use Rattle.law_ceilings.proofs.ceilings_hold.Goals as goal

pub returns : goal.returns
returns c = λ y as' told ceiled rest. rest-goes-on y ceiled as' told rest
