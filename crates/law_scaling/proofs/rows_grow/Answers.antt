use Rattle.law_scaling.proofs.Tables.{table-more}
use Rattle.law_scaling.proofs.rows_grow.Goals as goal

pub returns : goal.returns
returns c = λ f v w below. table-more f v w below
