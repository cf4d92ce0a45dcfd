use Rattle.hrthood_top.proofs.Replaying.{right_replays}
use Rattle.hrthood_top.proofs.two_runs.generated_text_replays.Goals as goal

pub returns : goal.returns
returns c = right_replays
