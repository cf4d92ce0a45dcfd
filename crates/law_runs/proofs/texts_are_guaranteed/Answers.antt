use Rattle.law_runs.proofs.Shared.DesignLaw.{texts-are-guaranteed}
use Rattle.law_runs.proofs.texts_are_guaranteed.Goals as goal

pub returns : goal.returns
returns c = texts-are-guaranteed
