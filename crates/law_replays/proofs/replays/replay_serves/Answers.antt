use Rattle.law_replays.proofs.Shared.RightReplays.{served-replay}
use Rattle.law_replays.proofs.replays.replay_serves.Goals as goal

pub returns : goal.returns
returns c = served-replay
