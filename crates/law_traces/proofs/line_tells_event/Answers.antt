use Rattle.law_traces.proofs.Shared.Events.{tells-event}
use Rattle.law_traces.proofs.line_tells_event.Goals as goal

pub returns : goal.returns
returns c = λ p plain e f more others h i same. tells-event p plain e f more others h i same
