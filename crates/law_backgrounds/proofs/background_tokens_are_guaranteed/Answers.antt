use Rattle.law_backgrounds.proofs.Shared.BackgroundRuns.{guaranteed}
use Rattle.law_backgrounds.proofs.background_tokens_are_guaranteed.Goals as goal

pub returns : goal.returns
returns c limit x text v proper passes fits within spelled = guaranteed limit x proper passes v fits text within spelled
