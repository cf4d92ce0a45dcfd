use Rattle.law_event_lines.proofs.Shared.Events.{design-events}
use Rattle.law_event_lines.proofs.designs_tell_events.Goals as goal

pub returns : goal.returns
returns c = λ x bytes text r told reads meets arrives means. design-events x bytes reads meets text r told arrives means
