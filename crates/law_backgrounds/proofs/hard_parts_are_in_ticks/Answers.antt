use Rattle.law_backgrounds.proofs.Shared.HardTicks.{ticks-hard}
use Rattle.law_backgrounds.proofs.hard_parts_are_in_ticks.Goals as goal

pub returns : goal.returns
returns c = ticks-hard
