use Rattle.law_walks.proofs.Shared.Exact.{tells}
use Rattle.law_walks.proofs.walks_are_exact.Goals as goal

pub returns : goal.returns
returns c = λ costs calls depth b vars script may. tells costs calls depth b vars script may
