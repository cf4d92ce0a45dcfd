use Rattle.law_replays.proofs.Shared.BackgroundReplays.{right-replay}
use Rattle.law_replays.proofs.background_replay_is_right.Goals as goal

pub returns : goal.returns
returns c = right-replay
