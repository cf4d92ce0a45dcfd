use Rattle.law_backgrounds.proofs.Shared.BackgroundRuns.{permitted}
use Rattle.law_backgrounds.proofs.background_replays_are_right.Goals as goal

pub returns : goal.returns
returns c limit x v r told proper passes fits accepted means = permitted limit x proper passes v fits r accepted told means
