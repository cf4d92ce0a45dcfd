use Rattle.law_ceilings.proofs.Shared.Entering.{run-home}
use Rattle.law_ceilings.proofs.data_are_home.Goals as goal

pub returns : goal.returns
returns c = λ y as' n ex. run-home y as' ex n
