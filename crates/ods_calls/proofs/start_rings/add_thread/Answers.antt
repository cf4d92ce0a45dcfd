use Rattle.std.proofs.Common.{◌≡◌, ◌++◌, map, ap, ◌∙◌}
use Rattle.std.proofs.lemmas.Result.{on_ok_weaker}
use Rattle.ods_tree.specs.Trees.{design_of}
use Rattle.ods_index.specs.Walking.{object_of}
use Rattle.ods_calls.specs.Spotted.{spot_in}
use Rattle.ods_calls.specs.Spreading.{direct_calls}
use Rattle.ods_calls.specs.Starting.{aimed}
use Rattle.ods_calls.specs.declared.spots.Part.TheVariants.{Operations, Threads}
use Rattle.ods_calls.proofs.SpotSteps.{edges-both}
use Rattle.ods_calls.proofs.start_rings.add_thread.Goals as goal
use Rattle.seq_cost.specs.Different.{call_of}

pub returns-in_ok-add_edges-in-Some : goal.returns-in_ok-add_edges-in-Some
returns-in_ok-add_edges-in-Some c =
    let place = spot_in c.args.spots.now in
    let ks = direct_calls (design_of c.args.links.now.design.now) (object_of c.args.node.now) in
    let vs = map call_of c.as_slice.result.now in
    let ws = map call_of c.as_slice-in-Some.result.now in
    let first : vs ≡ ks = ap (map call_of) c.as_slice.ensures.value ∙ c.in_ok-calls-in-Some.ensures in
    let second : ws ≡ ks = ap (map call_of) c.as_slice-in-Some.ensures.value ∙ c.in_ok-calls-in-Some.ensures in
    on_ok_weaker c.add_edges-in-Some.result
    (λ is. edges-both (λ k. place (aimed Threads k)) (λ k. place (aimed Operations k)) c.in-Some.from _ ks vs ws c.args.edges.now.items
    c.add_edges.new.edges.items c.add_edges-in-Some.new.edges.items c.in-Some.ensures first second c.in_ok-add_edges-in-Some.ensures is)
    c.add_edges-in-Some.ensures
