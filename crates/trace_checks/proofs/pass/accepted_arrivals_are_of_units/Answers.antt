use Rattle.trace_checks.proofs.Shared.Accepting.{accepted}
use Rattle.trace_checks.proofs.pass.accepted_arrivals_are_of_units.Goals as goal

pub returns : goal.returns
returns c = λ limit p r h. accepted limit p r h
