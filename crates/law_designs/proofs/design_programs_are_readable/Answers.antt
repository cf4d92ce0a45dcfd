use Rattle.law_designs.proofs.Shared.ReadablePrograms.{program-readable}
use Rattle.law_designs.proofs.design_programs_are_readable.Goals as goal

pub returns : goal.returns
returns c = λ x proper met. program-readable x proper met
