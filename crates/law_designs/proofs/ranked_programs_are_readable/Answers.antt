use Rattle.law_designs.proofs.Shared.ReadablePrograms.{ranked-readable}
use Rattle.law_designs.proofs.ranked_programs_are_readable.Goals as goal

pub returns : goal.returns
returns c = ranked-readable
