-- That bytes are taken as one design, whose flat design is sound, and are then not refused.
use Rattle.std.proofs.Common.{◌≡◌, ℕ, List, sym, ap, subst, ◌∙◌}
use Rattle.ods_tree.specs.Designs as designs
use Rattle.ods_tree.specs.Flattening.{flat}
use Rattle.ods_tree.specs.Ticks.{in_ticks}
use Rattle.design_rules.specs.Rules.{AreMet}
use Rattle.law_designs.proofs.Shared.SoundDesigns.{flat-sound}
use Rattle.analysis.specs.Sound.{IsSound}
use Rattle.bridge.specs.declared.taking.Untaken.{Untaken}
use Rattle.bridge.specs.Taking.{IsTakenAs, RefusesTaking}
use Rattle.hrthood_top.proofs.OneDesign.{one-design, not-untaken}

-- bytes are taken as one design
pub one-taken : (bytes : List ℕ) (x y : designs.Design) → IsTakenAs bytes x → IsTakenAs bytes y → x ≡ y
one-taken bytes x y v w = v.ticked ∙ ap in_ticks (one-design bytes v.design w.design v.reads w.reads) ∙ sym w.ticked

-- its flat design is sound
pub taken-sound : (bytes : List ℕ) (x : designs.Design) → IsTakenAs bytes x → IsSound (flat x)
taken-sound bytes x w = let P : designs.Design → Type 0 = λ y. AreMet w.design y in flat-sound w.design x (subst P (sym w.ticked) w.meets)

-- what is taken is not refused as untaken
pub taken-not : (bytes : List ℕ) (x : designs.Design) → IsTakenAs bytes x → (r : Untaken) → RefusesTaking bytes r → ⊥
taken-not bytes x w r h = not-untaken bytes w.design r w.reads w.meets h

-- what is said of one design that bytes are taken as is said of the other
pub along : (P : designs.Design → Type 0) (bytes : List ℕ) (x y : designs.Design) → IsTakenAs bytes x → IsTakenAs bytes y → P x → P y
along P bytes x y v w p = subst P (one-taken bytes x y v w) p
