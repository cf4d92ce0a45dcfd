use Rattle.law_written.proofs.Shared.EveryRun.{every_run}
use Rattle.law_written.proofs.every_run_does_as_written.Goals as goal

pub returns : goal.returns
returns c = every_run
