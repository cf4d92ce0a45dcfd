use Rattle.law_backgrounds.proofs.Shared.BackgroundRuns.{right-run}
use Rattle.law_backgrounds.proofs.background_designs_are_right.Goals as goal

pub returns : goal.returns
returns c limit x v proper passes fits r keeps = right-run limit x proper passes v fits r keeps
