use Rattle.law_ceilings.proofs.Shared.Tables.{tabled-goes-on}
use Rattle.law_ceilings.proofs.tabled_runs_go_on.Goals as goal

pub returns : goal.returns
returns c = λ p ts rows a trace rules tabled meaning. tabled-goes-on p ts rows a trace rules tabled meaning
