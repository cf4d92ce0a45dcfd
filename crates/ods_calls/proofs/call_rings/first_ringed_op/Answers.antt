use Rattle.std.proofs.Common.{◌≡◌, ap, subst, refl, ◌∙◌, arith, map, slice_get, None, Some}
use Rattle.ods_tree.specs.Trees.{design_of}
use Rattle.ods_tree.specs.Walk.{objects}
use Rattle.design_rules.specs.Broken.{V09Calls}
use Rattle.design_rules.specs.Rings.{terminal_ops}
use Rattle.design_rules.specs.Rules.{Fitting, RingedOp}
use Rattle.ods_calls.specs.Graphed.{calls_step}
use Rattle.name_sets.specs.FirstPlaces.{op_place_from}
use Rattle.ods_index.specs.Judging.{Passes}
use Rattle.ods_index.specs.Walking.{standing_of}
use Rattle.ods_calls.proofs.CallRings.{none-ringed, first-ringed, tells-first, ops-same, told-by}
use Rattle.ods_calls.proofs.NamePlaces.{tell-same}
use Rattle.ods_calls.proofs.call_rings.first_ringed_op.Goals as goal
use Rattle.rings.specs.Reached.{IsFirstOnRing}
use Rattle.seq_cost.specs.Different.{call_of}

pub returns-in-None : goal.returns-in-None
returns-in-None c =
    let x = design_of c.args.index.now.design.now in
    let seen : map standing_of c.as_slice.result.now ≡ objects x = ap (map standing_of) c.as_slice.ensures.value ∙ c.requires.indexed.walked in
    let named : map call_of c.as_slice-2.result.now ≡ terminal_ops x =
    ap (map call_of) c.as_slice-2.ensures.value ∙ ops-same x c.in_ok-ops.ops.items (map standing_of c.as_slice.result.now) c.in_ok-ops.ensures seen in
    let fit : Passes x Fitting = c.requires.before Fitting (omega arith) in
    none-ringed x (op_place_from 0 (terminal_ops x)) (λ n. refl) fit
    (subst (λ ops. IsFirstOnRing (calls_step x ops) None) named
    (subst (λ first. IsFirstOnRing (calls_step x (map call_of c.as_slice-2.result.now)) first) c.in-None.is c.in_ok-first_ringed.ensures))

pub returns : goal.returns
returns c =
    let x = design_of c.args.index.now.design.now in
    let place = c.in-Some.place in
    let seen : map standing_of c.as_slice.result.now ≡ objects x = ap (map standing_of) c.as_slice.ensures.value ∙ c.requires.indexed.walked in
    let views : map call_of c.in_ok-ops.ops.items ≡ terminal_ops x
    = ops-same x c.in_ok-ops.ops.items (map standing_of c.as_slice.result.now) c.in_ok-ops.ensures seen in
    let named : map call_of c.as_slice-2.result.now ≡ terminal_ops x = ap (map call_of) c.as_slice-2.ensures.value ∙ views in
    let fit : Passes x Fitting = c.requires.before Fitting (omega arith) in
    let f = first-ringed x (op_place_from 0 (terminal_ops x)) (λ n. refl) fit place
    (subst (λ ops. IsFirstOnRing (calls_step x ops) (Some place)) named
    (subst (λ first. IsFirstOnRing (calls_step x (map call_of c.as_slice-2.result.now)) first) c.in-Some.is c.in_ok-first_ringed.ensures)) in
    tells-first (RingedOp x) c.tell_op.result (V09Calls f.0)
    (told-by c.tell_op.result _ (V09Calls f.0) c.tell_op.ensures
    (tell-same call_of V09Calls c.as_slice-in-Some.result.now place f.0
    (ap (λ vs. slice_get vs place) (ap (map call_of) c.as_slice-in-Some.ensures.value ∙ views) ∙ f.1)))
    f.2
