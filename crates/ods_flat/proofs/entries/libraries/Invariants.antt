use Rattle.std.proofs.Common.{◌≡◌, ◌++◌, map, drop}
use Rattle.ods_tree.specs.Trees.{design_of, library_of}
use Rattle.ods_index.specs.Nodes.{node_object}
use Rattle.ods_flat.specs.Terminals.{libraries_among}
use Rattle.ods_flat.proofs.entries.libraries.Given as goal

-- the passive ones so far, and those of the objects that are left
abbrev pub invariant-objects : goal.invariant-objects
invariant-objects l =
    map library_of l.found.items ++ libraries_among (design_of l.links.design.now) (map node_object (drop l.node-index l.objects))
    ≡ libraries_among (design_of l.links.design.now) (map node_object l.objects)
