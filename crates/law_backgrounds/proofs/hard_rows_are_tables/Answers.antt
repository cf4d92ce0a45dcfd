use Rattle.law_backgrounds.proofs.Shared.BackgroundRuns.{hard-table}
use Rattle.law_backgrounds.proofs.hard_rows_are_tables.Goals as goal

pub returns : goal.returns
returns c = hard-table
