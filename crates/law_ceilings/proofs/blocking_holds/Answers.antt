use Rattle.law_ceilings.proofs.Shared.Blocked.{run-blocked}
use Rattle.law_ceilings.proofs.blocking_holds.Goals as goal

pub returns : goal.returns
returns c = λ y level bound as' m n limited phase pending. run-blocked y level bound limited as' m n phase pending
