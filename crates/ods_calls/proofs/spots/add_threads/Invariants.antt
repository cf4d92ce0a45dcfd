use Rattle.std.proofs.Common.{◌≡◌, ◌++◌, map, drop}
use Rattle.ods_tree.specs.Designs.{Object}
use Rattle.ods_index.specs.Nodes.{node_object}
use Rattle.ods_calls.specs.Spotted.{spot_of}
use Rattle.ods_calls.specs.Starting.{Thread}
use Rattle.ods_calls.proofs.spots.add_threads.Given as goal

-- those so far, and the threads that are left
abbrev pub invariant-threads : goal.invariant-threads
invariant-threads l =
    map spot_of l.spots.items ++ map (λ (o : Object). Thread o.name) (map node_object (drop l.node-index l.threads))
    ≡ map spot_of l.initial.spots.items ++ map (λ (o : Object). Thread o.name) (map node_object l.threads)
