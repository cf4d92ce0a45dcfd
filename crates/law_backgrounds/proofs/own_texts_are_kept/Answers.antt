use Rattle.ods_tree.specs.Ticks.{in_ticks}
use Rattle.law_backgrounds.proofs.NoBackground.{own-hard-part, own-rows, own-text}
use Rattle.law_backgrounds.proofs.own_texts_are_kept.Goals as goal

pub returns : goal.returns
returns c = λ x v meets. (own-hard-part x (in_ticks x) meets, own-rows x (in_ticks x) meets, own-text x (in_ticks x) meets v)
