use Rattle.law_explanations.proofs.Least.{late-threads-are-late}
use Rattle.law_explanations.proofs.late_threads_are_late_in_every_solution.Goals as goal

pub returns : goal.returns
returns c = late-threads-are-late c.numbers_are_least.ensures
