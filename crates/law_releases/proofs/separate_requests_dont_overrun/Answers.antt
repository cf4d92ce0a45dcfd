use Rattle.law_releases.proofs.Shared.Overruns.{never_overruns, releases_keep}
use Rattle.law_releases.proofs.separate_requests_dont_overrun.Goals as goal

pub returns : goal.returns
returns c ts told until ticks separation jitter name order some short responds keeps served = (
  never_overruns ts until name ticks separation jitter some short told order responds keeps served,
  releases_keep ts until name ticks separation jitter some short told order responds keeps served,
)
