use Rattle.law_replays.proofs.Shared.OneProgram.{one_program}
use Rattle.law_replays.proofs.texts_are_one_program.Goals as goal

pub returns : goal.returns
returns c = one_program
