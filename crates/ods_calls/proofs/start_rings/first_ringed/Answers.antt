use Rattle.std.proofs.Common.{◌≡◌, IfOk, List, ap, sym, subst, ◌∙◌, arith, filter, map, length}
use Rattle.std.proofs.Math.Path.{fun_ext}
use Rattle.std.proofs.lemmas.List.{length-map}
use Rattle.std.specs.Prelude.{is_some}
use Rattle.name_sets.specs.Places.{place_in}
use Rattle.ods_tree.specs.Designs.{Object}
use Rattle.ods_tree.specs.Trees.{design_of}
use Rattle.ods_tree.specs.declared.design.Design as code
use Rattle.design_rules.specs.Rings.{thread_objects}
use Rattle.ods_index.specs.Calling.{Calls, calls_of, design_calls}
use Rattle.ods_index.specs.Nodes.{node_object}
use Rattle.ods_calls.specs.Held.{is_held}
use Rattle.ods_calls.specs.Keys.{has_target}
use Rattle.ods_calls.specs.Spotted.{spot_in, spot_of}
use Rattle.ods_calls.specs.Starting.{Spot, spot_from, spots_among, spots_of, start_edges}
use Rattle.ods_calls.specs.declared.spots.Spot as listed
use Rattle.ods_calls.proofs.SpotSteps.{edges-same}
use Rattle.ods_calls.proofs.start_rings.first_ringed.Goals as goal
use Rattle.rings.specs.Graphs.{is_step}
use Rattle.rings.specs.Reached.{IsFirstOnRing}

pub returns : goal.returns
returns c =
    let index = c.args.index.now in
    let x = design_of index.design.now in
    let os = map node_object c.args.threads.now in
    let bodies = map calls_of c.as_slice-calls.result.now in
    let calls : bodies ≡ design_calls x = ap (map calls_of) c.as_slice-calls.ensures.value ∙ c.requires.indexed.called in
    let all : map spot_of c.in_ok-listed.listed.items ≡ spots_of x =
    c.in_ok-listed.ensures ∙ ap (λ (hs : List Calls). spots_among os (filter is_held hs)) calls
    ∙ ap (λ (ps : List Object). spots_among ps (filter is_held (design_calls x))) c.requires.threads in
    let slice : map spot_of c.as_slice.result.now ≡ spots_of x = ap (λ (ss : List listed.Spot). map spot_of ss) c.as_slice.ensures.value ∙ all in
    let places : spot_in c.in_ok-spots.spots ≡ spot_from 0 (spots_of x) =
    fun_ext (λ s. c.in_ok-spots.ensures s ∙ ap (λ (ss : List Spot). spot_from 0 ss s) slice) in
    let targets : (λ n. is_some (place_in c.in_ok-targets.targets n)) ≡ has_target (thread_objects x) =
    fun_ext (λ n. c.in_ok-targets.ensures n ∙ ap (λ (ps : List Object). has_target ps n) c.requires.threads) in
    let edges : c.as_slice-2.result.now
    ≡ start_edges x (spot_from 0 (spots_of x)) (has_target (thread_objects x)) (design_calls x) (thread_objects x) =
    c.as_slice-2.ensures.value ∙ c.in_ok-edges.ensures
    ∙ edges-same (design_of index.links.design.now) x (spot_in c.in_ok-spots.spots) (spot_from 0 (spots_of x))
    (λ n. is_some (place_in c.in_ok-targets.targets n)) (has_target (thread_objects x)) bodies (design_calls x) os (thread_objects x)
    (ap (λ (d : code.Design). design_of d) c.requires.indexed.linked) places targets calls c.requires.threads in
    let long : c.len.result ≡ length c.in_ok-listed.listed.items = omega (arith, c.len.ensures, c.in_ok-listed.listed.ok.0) in
    let count : c.len.result ≡ length (spots_of x) =
    long ∙ sym (length-map c.in_ok-listed.listed.items spot_of) ∙ ap (λ (ss : List Spot). length ss) all in
    subst (λ n. IfOk c.first_on_ring.result (IsFirstOnRing (is_step n
    (start_edges x (spot_from 0 (spots_of x)) (has_target (thread_objects x)) (design_calls x) (thread_objects x))))) count
    (subst (λ es. IfOk c.first_on_ring.result (IsFirstOnRing (is_step c.len.result es))) edges c.first_on_ring.ensures)
