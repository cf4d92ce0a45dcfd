use Rattle.law_traces.proofs.Shared.Judging.{judges}
use Rattle.law_traces.proofs.checks_judge.Goals as goal

pub returns : goal.returns
returns c = λ w clear r told. judges w clear r told
