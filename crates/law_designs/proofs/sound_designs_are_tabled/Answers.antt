use Rattle.law_designs.proofs.Shared.TabledTasks.{sound-tabled}
use Rattle.law_designs.proofs.sound_designs_are_tabled.Goals as goal

pub returns : goal.returns
returns c = sound-tabled
