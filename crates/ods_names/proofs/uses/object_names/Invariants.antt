use Rattle.std.proofs.Common.{◌≡◌, ◌||◌, map, drop}
use Rattle.std.specs.List.{list_any}
use Rattle.seq_tree.specs.Names.{Name, same_name}
use Rattle.name_sets.specs.Sets.{has}
use Rattle.ods_index.specs.Walking.{object_of}
use Rattle.ods_names.proofs.uses.object_names.Given as goal

-- the names so far, and those of the objects that are left
abbrev pub invariant-nodes : goal.invariant-nodes
invariant-nodes l = (n : Name) → (has l.names n || list_any (λ o. same_name o.name n) (map object_of (drop l.node-index l.nodes)))
    ≡ list_any (λ o. same_name o.name n) (map object_of l.nodes)
