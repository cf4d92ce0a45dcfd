use Rattle.law_event_lines.proofs.Shared.Names.{design-plain}
use Rattle.law_event_lines.proofs.designs_have_plain_names.Goals as goal

pub returns : goal.returns
returns c = λ x bytes reads met. design-plain x bytes reads met
