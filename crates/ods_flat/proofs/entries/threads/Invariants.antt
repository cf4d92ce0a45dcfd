use Rattle.std.proofs.Common.{◌≡◌, ◌++◌, map, drop}
use Rattle.ods_tree.specs.Trees.{design_of, thread_of}
use Rattle.ods_index.specs.Nodes.{node_object}
use Rattle.ods_flat.specs.Terminals.{threads_among}
use Rattle.ods_flat.proofs.entries.threads.Given as goal

-- the threads so far, and those of the objects that are left
abbrev pub invariant-objects : goal.invariant-objects
invariant-objects l =
    map thread_of l.found.items ++ threads_among (design_of l.links.design.now) (map node_object (drop l.node-index l.objects))
    ≡ threads_among (design_of l.links.design.now) (map node_object l.objects)
