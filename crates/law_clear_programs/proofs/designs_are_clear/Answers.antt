use Rattle.std.proofs.Common.{subst}
use Rattle.ods_tree.specs.Ticks.{in_ticks}
use Rattle.guarantee.specs.Programs.{program}
use Rattle.guarantee.proofs.Shared.Same.{program-software}
use Rattle.law_designs.proofs.Shared.ReadablePrograms.{program-readable}
use Rattle.law_traces.specs.Clear.{IsClear}
use Rattle.law_clear_programs.proofs.Shared.Clear.{clear}
use Rattle.law_clear_programs.proofs.designs_are_clear.Goals as goal

pub returns : goal.returns
returns c = λ x proper meets. subst IsClear (program-software (in_ticks x)) (clear (program (in_ticks x)) (program-readable x proper meets).1)
