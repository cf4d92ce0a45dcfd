use Rattle.std.proofs.Common.{◌≡◌, ◌++◌, map, filter, drop}
use Rattle.ods_tree.specs.Walk.{is_terminal}
use Rattle.ods_index.specs.Nodes.{node_object}
use Rattle.ods_index.specs.Walking.{standing_of}
use Rattle.ods_flat.proofs.terminals.terminals.Given as goal

-- the terminal objects so far, and those of the objects that are left
abbrev pub invariant-objects : goal.invariant-objects
invariant-objects l =
    map node_object l.found.items ++ map (λ s. s.own) (filter is_terminal (map standing_of (drop l.standing-index l.standing-items)))
    ≡ map (λ s. s.own) (filter is_terminal (map standing_of l.standing-items))
