-- What is made of a design in ticks that meets the rules, from its flat design, its analysis and its text.
use Rattle.std.proofs.Common.{◌≡◌, ℕ, ◌≤◌, ◌<◌, List, length, sym, ap, subst, ◌∙◌}
use Rattle.seq_tree.specs.Limits.{ada_limit}
use Rattle.ods_tree.specs.Designs.{Design}
use Rattle.ods_tree.specs.Flats.{Flat}
use Rattle.ods_tree.specs.Flattening.{flat}
use Rattle.ods_tree.specs.Ticks.{first_priority}
use Rattle.design_rules.specs.Rules.{AreMet}
use Rattle.design_bounds.specs.Analyses.{IsAnalysis}
use Rattle.design_bounds.specs.declared.rows.Analysis.{Analysis}
use Rattle.design_bounds.proofs.Shared.CheckedDesigns.{flat-of}
pub use Rattle.design_bounds.proofs.Shared.CheckedDesigns.{sound-of, small-of, some-of}
use Rattle.bridge.specs.Makes.{HasRoom, IsLong, IsMade, flat_text}
use Rattle.bridge.specs.declared.delivery.Delivery.{Delivery}
use Rattle.bridge.proofs.RankRooms.{has-room}

module _ (x y : Design) (same : y ≡ x) (met : AreMet y y) (first : ℕ) (written : first ≡ first_priority y) (f : Flat) (flattened : f ≡ flat x) where
  pub room-of : HasRoom first f
  room-of =
      let P : ℕ → Type 0 = λ n. HasRoom n (flat y) in
      let Q : Flat → Type 0 = λ g. HasRoom first g in
      subst Q (sym (flat-of x y same met first written f flattened)) (subst P (sym written) (has-room y met))

  named : first ≡ first_priority x
  named = written ∙ ap first_priority same

  module _ (a : Analysis) (analysed : IsAnalysis first f a) where
    right : IsAnalysis (first_priority x) (flat x) a
    right =
        let P : ℕ → Type 0 = λ n. IsAnalysis n (flat x) a in
        let Q : Flat → Type 0 = λ g. IsAnalysis first g a in
        subst P named (subst Q flattened analysed)

    texts : (t : List ℕ) → t ≡ flat_text first f a.bounds.items → t ≡ flat_text (first_priority x) (flat x) a.bounds.items
    texts t e = e ∙ ap (λ n. flat_text n f a.bounds.items) named ∙ ap (λ g. flat_text (first_priority x) g a.bounds.items) flattened

    pub made-of : (d : Delivery) → d.text.items ≡ flat_text first f a.bounds.items → length d.text.items ≤ ada_limit → d.bounds.items ≡ a.named.items
        → d.ceilings.items ≡ a.ceilings.items → IsMade x d
    made-of d e short bounds ceilings =
        let k = right in record {
          bounds = a.bounds.items;
          least = k.least;
          made = texts d.text.items e;
          short = short;
          named = bounds ∙ k.named;
          ceilings = ceilings ∙ k.ceilings;
        }

    pub long-of : (t : List ℕ) → t ≡ flat_text first f a.bounds.items → ada_limit < length t → IsLong x
    long-of t e long =
        let k = right in
        let P : List ℕ → Type 0 = λ u. ada_limit < length u in
        record { bounds = a.bounds.items; least = k.least; long = subst P (texts t e) long }
