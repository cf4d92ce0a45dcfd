use Rattle.law_replays.proofs.Shared.BackgroundReplays.{right-text}
use Rattle.law_replays.proofs.background_text_replays_right.Goals as goal

pub returns : goal.returns
returns c = right-text
