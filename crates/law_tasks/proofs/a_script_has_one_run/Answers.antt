use Rattle.law_tasks.proofs.OneWay.{one_run}
use Rattle.law_tasks.proofs.a_script_has_one_run.Goals as goal

pub returns : goal.returns
returns c = λ costs calls b vars p q first second same. one_run costs calls b vars p q first second same
