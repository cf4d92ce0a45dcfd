-- Examples: what is told of separations and what calls count, and what breaks each of them alone.
use Rattle.std.specs.Prelude.{◌≡◌, ℕ, true, false, [], ◌∷◌, Some, None, codes, refl}
use Rattle.std.proofs.Common.{ap}
use Rattle.name_sets.specs.Tables.{at, or_0}
use Rattle.name_sets.specs.declared.op_table.OpTable.{OpTable}
use Rattle.ods_tree.specs.Designs.{Object}
use Rattle.ods_tree.specs.declared.design.AttrKey.TheVariants.{Separation}
use Rattle.ods_tree.specs.declared.design.Kind.TheVariants.{Sporadic}
use Rattle.design_rules.specs.Broken.{V16}
use Rattle.ods_calls.specs.Requested.{call_weight, known_in}
use Rattle.ods_calls.specs.Spacings.{spaced}
use Rattle.ods_calls.proofs.SmallParts.{caller, set, small}

abbrev target : Object
target = record {
  name = codes "q";
  kind = Sporadic;
  attrs = record { key = Separation; value = 10; unit = None } ∷ [];
  provides = [];
  needs = [];
  vars = [];
  bodies = [];
  thread = None;
  links = [];
}

too_often : spaced (λ n. true) (caller []) target ≡ Some (V16 (codes "a") 5 (codes "q") 10)
too_often = refl

not_reached : spaced (λ n. false) (caller []) target ≡ None
not_reached = refl

not_sporadic : spaced (λ n. true) (caller []) (caller []) ≡ None
not_sporadic = refl

counts_once : call_weight (small (caller [])) (codes "q") (λ n. 7) (set ∷ []) set ≡ 1
counts_once = refl

counts_what_is_known : call_weight (small (caller [])) (codes "p") (λ n. 7) (set ∷ []) set ≡ 7
counts_what_is_known = refl

counts_nothing_without_need : call_weight (small (caller [])) (codes "q") (λ n. 7) [] set ≡ 0
counts_nothing_without_need = refl

nothing_known : (t : OpTable ℕ) → at t set ≡ None → known_in t set ≡ 0
nothing_known t none = ap or_0 none

something_known : (t : OpTable ℕ) → at t set ≡ Some 2 → known_in t set ≡ 2
something_known t some = ap or_0 some
