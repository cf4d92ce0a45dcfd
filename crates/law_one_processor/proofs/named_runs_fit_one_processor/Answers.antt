use Rattle.law_one_processor.proofs.Shared.Programs.{named-runs-fit}
use Rattle.law_one_processor.proofs.named_runs_fit_one_processor.Goals as goal

pub returns : goal.returns
returns c = λ p r trace rules means. named-runs-fit p r trace rules means
