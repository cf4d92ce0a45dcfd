use Rattle.law_explanations.proofs.Least.{numbers-are-least}
use Rattle.law_explanations.proofs.numbers_are_least.Goals as goal

pub returns : goal.returns
returns c = numbers-are-least c.bounds_are_solved_rows.ensures c.solved_rows_are_least.ensures c.rows_beyond_are_late.ensures
