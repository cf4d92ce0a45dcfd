use Rattle.std.proofs.Common.{◌≡◌, ◌++◌, map, drop}
use Rattle.ods_tree.specs.Trees.{design_of, guarded_of}
use Rattle.ods_index.specs.Nodes.{node_object}
use Rattle.ods_flat.specs.Terminals.{guarded_among}
use Rattle.ods_flat.proofs.entries.protected.Given as goal

-- the protected ones so far, and those of the objects that are left
abbrev pub invariant-objects : goal.invariant-objects
invariant-objects l =
    map guarded_of l.found.items ++ guarded_among (design_of l.links.design.now) (map node_object (drop l.node-index l.objects))
    ≡ guarded_among (design_of l.links.design.now) (map node_object l.objects)
