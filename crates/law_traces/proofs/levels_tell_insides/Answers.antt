use Rattle.law_traces.proofs.Shared.Leveling.{tells-insides}
use Rattle.law_traces.proofs.levels_tell_insides.Goals as goal

pub returns : goal.returns
returns c = λ ss. tells-insides ss
