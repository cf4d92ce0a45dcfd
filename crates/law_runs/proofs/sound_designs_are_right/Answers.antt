use Rattle.law_responses.proofs.Shared.ProgramLaw.{processor-responds}
use Rattle.law_runs.proofs.DesignRuns.{guaranteed_runs}
use Rattle.law_designs.proofs.Shared.TabledTasks.{sound-tabled}
use Rattle.law_runs.proofs.sound_designs_are_right.Goals as goal

pub returns : goal.returns
returns c limit x v sound spaced readable =
    guaranteed_runs limit (processor-responds limit) x v readable (sound-tabled x sound spaced)
