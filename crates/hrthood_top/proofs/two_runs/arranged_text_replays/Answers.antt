use Rattle.hrthood_top.proofs.ArrangedReplaying.{right_arranged_replays}
use Rattle.hrthood_top.proofs.two_runs.arranged_text_replays.Goals as goal

pub returns : goal.returns
returns c = right_arranged_replays
