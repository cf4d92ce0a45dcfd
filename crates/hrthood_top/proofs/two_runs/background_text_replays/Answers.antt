use Rattle.hrthood_top.proofs.BackgroundReplaying.{right_background_replays}
use Rattle.hrthood_top.proofs.two_runs.background_text_replays.Goals as goal

pub returns : goal.returns
returns c = right_background_replays
