use Rattle.hrthood_top.proofs.OneOrder.{writes-by-deadline, writes-as-analysed}
use Rattle.hrthood_top.proofs.deadline_reports.searched_as_analysed.Goals as goal

pub returns-clause-by_deadline : goal.returns-clause-by_deadline
returns-clause-by_deadline c = writes-by-deadline

pub returns-clause-same : goal.returns-clause-same
returns-clause-same c = writes-as-analysed
