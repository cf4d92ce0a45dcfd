use Rattle.law_dispatching.proofs.Shared.Renumbered.{renumbered_tells}
use Rattle.law_dispatching.proofs.renumbered_states_tell_the_same.Goals as goal

pub returns : goal.returns
returns c y s t told = renumbered_tells y s t told
