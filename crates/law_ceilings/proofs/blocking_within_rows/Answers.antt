use Rattle.law_ceilings.proofs.Shared.Tables.{tabled-blocks}
use Rattle.law_ceilings.proofs.blocking_within_rows.Goals as goal

pub returns : goal.returns
returns c = λ p ts rows a i t row m n rules tabled at at' phase pending. tabled-blocks p ts rows a i t row m n rules tabled at at' phase pending
