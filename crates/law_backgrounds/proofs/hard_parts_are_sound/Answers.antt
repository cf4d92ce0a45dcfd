use Rattle.law_backgrounds.proofs.Shared.BackgroundRuns.{hard-sound}
use Rattle.law_backgrounds.proofs.hard_parts_are_sound.Goals as goal

pub returns : goal.returns
returns c = hard-sound
