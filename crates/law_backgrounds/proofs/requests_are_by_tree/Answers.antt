use Rattle.ods_tree.specs.Ticks.{in_ticks}
use Rattle.law_backgrounds.proofs.ClientStarts.{requests-by-tree}
use Rattle.law_backgrounds.proofs.requests_are_by_tree.Goals as goal

pub returns : goal.returns
returns c = λ x met. requests-by-tree x (in_ticks x) met
