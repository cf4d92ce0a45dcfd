use Rattle.law_dispatching.proofs.Shared.Heads.{dispatched-head}
use Rattle.law_dispatching.proofs.first_ready_task_is_dispatched.Goals as goal

pub returns : goal.returns
returns c tasks orders ready q = dispatched-head tasks orders ready q
