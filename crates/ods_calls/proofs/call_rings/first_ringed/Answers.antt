use Rattle.std.proofs.Common.{◌≡◌, IfOk, ap, subst, ◌∙◌, map, flat_map, length, sym}
use Rattle.std.proofs.Math.Path.{fun_ext}
use Rattle.std.proofs.lemmas.List.{length-map}
use Rattle.name_sets.specs.Tables.{at}
use Rattle.ods_tree.specs.Trees.{design_of}
use Rattle.ods_calls.specs.Graphed.{body_edges}
use Rattle.name_sets.specs.FirstPlaces.{op_place_from}
use Rattle.ods_index.specs.Calling.{calls_of, design_calls}
use Rattle.ods_calls.proofs.call_rings.first_ringed.Goals as goal
use Rattle.rings.specs.Graphs.{is_step}
use Rattle.rings.specs.Reached.{IsFirstOnRing}
use Rattle.seq_cost.specs.Different.{call_of}

pub returns : goal.returns
returns c =
    let x = design_of c.args.index.now.design.now in
    let ops = map call_of c.args.ops.now in
    let places = at c.in_ok-places.places in
    let placed : places ≡ op_place_from 0 ops = fun_ext c.in_ok-places.ensures in
    let edges : c.as_slice-2.result.now ≡ flat_map (body_edges (λ b. op_place_from 0 ops b.name) (op_place_from 0 ops)) (design_calls x) =
    c.as_slice-2.ensures.value ∙ c.in_ok-edges.ensures
    ∙ ap (flat_map (body_edges (λ b. places b.name) places)) (ap (map calls_of) c.as_slice.ensures.value ∙ c.requires.called)
    ∙ ap (λ place. flat_map (body_edges (λ b. place b.name) place) (design_calls x)) placed in
    let count : length c.args.ops.now ≡ length ops = sym (length-map c.args.ops.now call_of) in
    subst (λ n. IfOk c.first_on_ring.result
    (IsFirstOnRing (is_step n (flat_map (body_edges (λ b. op_place_from 0 ops b.name) (op_place_from 0 ops)) (design_calls x))))) count
    (subst (λ es. IfOk c.first_on_ring.result (IsFirstOnRing (is_step (length c.args.ops.now) es))) edges c.first_on_ring.ensures)
