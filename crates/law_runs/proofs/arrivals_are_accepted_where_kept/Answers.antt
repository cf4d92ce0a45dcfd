use Rattle.law_runs.proofs.Shared.KeptAccepted.{accepted_software}
use Rattle.law_runs.proofs.KeptSoftware.{kept_software}
use Rattle.law_runs.proofs.arrivals_are_accepted_where_kept.Goals as goal

pub returns : goal.returns
returns c limit p r readable = (kept_software limit p r readable.1, accepted_software limit p r readable)
