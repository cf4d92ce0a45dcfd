use Rattle.law_trace_places.proofs.Shared.Units.{what-it-is}
use Rattle.law_trace_places.proofs.units_tell_what_they_are.Goals as goal

pub returns : goal.returns
returns c = λ p meets unit h. what-it-is p meets unit h
