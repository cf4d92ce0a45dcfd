use Rattle.law_trace_places.proofs.Shared.Units.{unit-names}
use Rattle.law_trace_places.proofs.unit_names_tell_units.Goals as goal

pub returns : goal.returns
returns c = λ p meets i j h k. unit-names p meets i j h k
