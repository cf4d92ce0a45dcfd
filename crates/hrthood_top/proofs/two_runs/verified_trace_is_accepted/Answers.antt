use Rattle.hrthood_top.proofs.VerifiedAccepted.{verified-trace}
use Rattle.hrthood_top.proofs.two_runs.verified_trace_is_accepted.Goals as goal

pub returns : goal.returns
returns c = verified-trace
