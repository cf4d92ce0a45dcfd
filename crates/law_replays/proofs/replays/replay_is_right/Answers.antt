use Rattle.law_replays.proofs.Shared.RightReplays.{right-replay}
use Rattle.law_replays.proofs.replays.replay_is_right.Goals as goal

pub returns : goal.returns
returns c = right-replay
