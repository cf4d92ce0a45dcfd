use Rattle.std.proofs.Common.{◌≡◌, ap, subst, refl, ◌∙◌, map, slice_get, None, Some}
use Rattle.ods_tree.specs.Trees.{design_of}
use Rattle.ods_tree.specs.Walk.{objects}
use Rattle.design_rules.specs.Broken.{V09Objects}
use Rattle.design_rules.specs.Rings.{protected_objects}
use Rattle.design_rules.specs.Rules.{RingedObject}
use Rattle.ods_calls.specs.Guarded.{guards_among, guards_step}
use Rattle.ods_index.specs.Nodes.{node_object}
use Rattle.name_sets.specs.FirstPlaces.{place_from}
use Rattle.ods_index.specs.Walking.{standing_of}
use Rattle.ods_calls.proofs.CallRings.{tells-first, told-by}
use Rattle.ods_calls.proofs.NamePlaces.{names-of, tell-same}
use Rattle.ods_calls.proofs.ObjectRings.{none-ringed, first-ringed}
use Rattle.ods_calls.proofs.object_rings.first_ringed_object.Goals as goal
use Rattle.rings.specs.Reached.{IsFirstOnRing}

pub returns-in-None : goal.returns-in-None
returns-in-None c =
    let x = design_of c.args.index.now.design.now in
    let seen : map standing_of c.as_slice.result.now ≡ objects x = ap (map standing_of) c.as_slice.ensures.value ∙ c.requires.walked in
    let named : map node_object c.as_slice-2.result.now ≡ protected_objects x =
    ap (map node_object) c.as_slice-2.ensures.value ∙ c.in_ok-guards.ensures ∙ ap guards_among seen in
    none-ringed x (λ n. place_from 0 n (names-of (protected_objects x))) (λ n. refl)
    (subst (λ os. IsFirstOnRing (guards_step x os) None) named
    (subst (λ first. IsFirstOnRing (guards_step x (map node_object c.as_slice-2.result.now)) first) c.in-None.is c.in_ok-first_ringed.ensures))

pub returns : goal.returns
returns c =
    let x = design_of c.args.index.now.design.now in
    let place = c.in-Some.place in
    let seen : map standing_of c.as_slice.result.now ≡ objects x = ap (map standing_of) c.as_slice.ensures.value ∙ c.requires.walked in
    let guards : map node_object c.in_ok-guards.guards.items ≡ protected_objects x = c.in_ok-guards.ensures ∙ ap guards_among seen in
    let named : map node_object c.as_slice-2.result.now ≡ protected_objects x = ap (map node_object) c.as_slice-2.ensures.value ∙ guards in
    let f = first-ringed x (λ n. place_from 0 n (names-of (protected_objects x))) (λ n. refl) place
    (subst (λ os. IsFirstOnRing (guards_step x os) (Some place)) named
    (subst (λ first. IsFirstOnRing (guards_step x (map node_object c.as_slice-2.result.now)) first) c.in-Some.is c.in_ok-first_ringed.ensures)) in
    tells-first (RingedObject x) c.tell_object.result (V09Objects f.0.name)
    (told-by c.tell_object.result _ (V09Objects f.0.name) c.tell_object.ensures
    (tell-same node_object (λ o. V09Objects o.name) c.as_slice-in-Some.result.now place f.0
    (ap (λ vs. slice_get vs place) (ap (map node_object) c.as_slice-in-Some.ensures.value ∙ guards) ∙ f.1)))
    f.2
