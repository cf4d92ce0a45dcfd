use Rattle.ods_tree.specs.Ticks.{in_ticks}
use Rattle.law_designs.proofs.Shared.SoundDesigns.{flat-sound, flat-spaced}
use Rattle.law_designs.proofs.flat_designs_are_sound.Goals as goal

pub returns : goal.returns
returns c = λ x met. (flat-sound x (in_ticks x) met, flat-spaced x (in_ticks x) met)
