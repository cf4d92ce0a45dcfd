-- The flat design of a design that meets the rules is sound and spaced.
use Rattle.ods_tree.specs.Designs.{Design}
use Rattle.ods_tree.specs.Flattening.{flat}
use Rattle.analysis.specs.Sound.{IsSound, IsSpaced}
use Rattle.design_rules.specs.Rules.{AreMet}
use Rattle.law_designs.proofs.WellFormed.{formed, op_costs-right, thread_costs-right}
use Rattle.law_designs.proofs.NoRings.{no-call-ring, no-object-ring}
use Rattle.law_designs.proofs.Shared.Started.{all-started}
use Rattle.law_designs.proofs.Spaced.{all-spaced}

pub flat-sound : (written x : Design) → AreMet written x → IsSound (flat x)
flat-sound written x met = record {
  formed = formed written x met;
  no_ring = no-call-ring written x met;
  no_object_ring = no-object-ring written x met;
  started = all-started written x met;
  op_costs = op_costs-right written x met;
  thread_costs = thread_costs-right written x met;
}

pub flat-spaced : (written x : Design) → AreMet written x → IsSpaced (flat x)
flat-spaced written x met = all-spaced written x met
