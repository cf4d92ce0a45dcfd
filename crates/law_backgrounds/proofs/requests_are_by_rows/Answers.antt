use Rattle.law_backgrounds.proofs.Shared.StarterRows.{requests-by-rows}
use Rattle.law_backgrounds.proofs.requests_are_by_rows.Goals as goal

pub returns : goal.returns
returns c = requests-by-rows
