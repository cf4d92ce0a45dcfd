use Rattle.law_traces.proofs.Shared.Events.{tells-events}
use Rattle.law_traces.proofs.lines_tell_events.Goals as goal

pub returns : goal.returns
returns c = λ p plain es fs h i same. tells-events p plain es fs h i same
