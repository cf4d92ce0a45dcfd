use Rattle.law_replays.proofs.Shared.RightReplays.{right-arranged}
use Rattle.law_replays.proofs.replays.arranged_text_replays_right.Goals as goal

pub returns : goal.returns
returns c = right-arranged
