use Rattle.law_replays.proofs.Shared.RightReplays.{right-generated}
use Rattle.law_replays.proofs.replays.generated_text_replays_right.Goals as goal

pub returns : goal.returns
returns c = right-generated
