use Rattle.law_backgrounds.proofs.Shared.BackgroundRuns.{program-readable}
use Rattle.law_backgrounds.proofs.background_programs_are_readable.Goals as goal

pub returns : goal.returns
returns c = program-readable
