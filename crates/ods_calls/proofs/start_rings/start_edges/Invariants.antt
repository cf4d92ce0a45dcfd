use Rattle.std.proofs.Common.{◌≡◌, ◌++◌, flat_map, map, drop}
use Rattle.std.specs.Prelude.{is_some}
use Rattle.name_sets.specs.Places.{place_in}
use Rattle.ods_tree.specs.Trees.{design_of}
use Rattle.ods_index.specs.Calling.{calls_of}
use Rattle.ods_index.specs.Nodes.{node_object}
use Rattle.ods_calls.specs.Spotted.{spot_in}
use Rattle.ods_calls.specs.Starting.{start_edges, thread_edges}
use Rattle.ods_calls.proofs.start_rings.start_edges.Given as goal

-- the edges so far, and those of the threads that are left
abbrev pub invariant-threads : goal.invariant-threads
invariant-threads l =
    l.edges.items
    ++ flat_map (thread_edges (design_of l.links.design.now) (spot_in l.spots) (λ n. is_some (place_in l.targets n)))
    (map node_object (drop l.node-index l.threads))
    ≡ start_edges (design_of l.links.design.now) (spot_in l.spots) (λ n. is_some (place_in l.targets n)) (map calls_of l.calls)
    (map node_object l.threads)
