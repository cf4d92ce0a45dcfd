use Rattle.law_clear_programs.proofs.Shared.Clear.{clear}
use Rattle.law_clear_programs.proofs.programs_are_clear.Goals as goal

pub returns : goal.returns
returns c = λ p meets. clear p meets
