use Rattle.law_one_processor.proofs.Shared.Programs.{runs-fit}
use Rattle.law_one_processor.proofs.runs_fit_one_processor.Goals as goal

pub returns : goal.returns
returns c = runs-fit
