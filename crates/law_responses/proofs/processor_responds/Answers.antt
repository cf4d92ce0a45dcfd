use Rattle.law_responses.proofs.Shared.ProgramLaw.{processor-responds}
use Rattle.law_responses.proofs.processor_responds.Goals as goal

pub returns : goal.returns
returns c = processor-responds
