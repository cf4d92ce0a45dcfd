use Rattle.std.proofs.Common.{◌≡◌, IfOk, ap, subst, ◌∙◌, map, flat_map, length, sym}
use Rattle.std.proofs.Math.Path.{fun_ext}
use Rattle.std.proofs.lemmas.List.{length-map}
use Rattle.seq_tree.specs.Names.{Name}
use Rattle.name_sets.specs.Places.{place_in}
use Rattle.ods_tree.specs.Trees.{design_of}
use Rattle.ods_calls.specs.Guarded.{guard_edges}
use Rattle.ods_index.specs.Calling.{calls_of, design_calls}
use Rattle.ods_index.specs.Nodes.{node_object}
use Rattle.name_sets.specs.FirstPlaces.{place_from}
use Rattle.ods_calls.proofs.NamePlaces.{names-of, names-same}
use Rattle.ods_calls.proofs.object_rings.first_ringed.Goals as goal
use Rattle.rings.specs.Graphs.{is_step}
use Rattle.rings.specs.Reached.{IsFirstOnRing}

pub returns : goal.returns
returns c =
    let x = design_of c.args.index.now.design.now in
    let os = map node_object c.args.guards.now in
    let places = place_in c.in_ok-places.places in
    let placed : places ≡ (λ (n : Name). place_from 0 n (names-of os)) =
    fun_ext (λ n. c.in_ok-places.ensures n ∙ ap (λ ns. place_from 0 n ns) (names-same c.args.guards.now)) in
    let edges : c.as_slice-2.result.now ≡ flat_map (guard_edges (λ n. place_from 0 n (names-of os))) (design_calls x) =
    c.as_slice-2.ensures.value ∙ c.in_ok-edges.ensures
    ∙ ap (flat_map (guard_edges places)) (ap (map calls_of) c.as_slice.ensures.value ∙ c.requires.called)
    ∙ ap (λ place. flat_map (guard_edges place) (design_calls x)) placed in
    let count : length c.args.guards.now ≡ length os = sym (length-map c.args.guards.now node_object) in
    subst (λ n. IfOk c.first_on_ring.result (IsFirstOnRing (is_step n (flat_map (guard_edges (λ n. place_from 0 n (names-of os))) (design_calls x)))))
    count (subst (λ es. IfOk c.first_on_ring.result (IsFirstOnRing (is_step (length c.args.guards.now) es))) edges c.first_on_ring.ensures)
