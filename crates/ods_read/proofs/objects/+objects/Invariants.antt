use Rattle.std.proofs.Common.{◌≡◌, ◌+◌, ◌*◌, length, map}
use Rattle.ods_tree.specs.Trees.{tree_of}
use Rattle.token_read.specs.Ahead.{ahead}
use Rattle.ods_read.specs.ObjectReaders.{tree_list_at, tree_at}
use Rattle.ods_read.proofs.ObjectSteps.{trees_after}
use Rattle.ods_read.proofs.objects.+objects.Given as goal

-- each depth has room for the readers that call one another there
abbrev pub decreases-inside : goal.decreases-inside
decreases-inside l = 4 * l.deeper

abbrev pub decreases-children : goal.decreases-children
decreases-children l = 4 * l.deeper + 1

abbrev pub decreases-object : goal.decreases-object
decreases-object l = 4 * l.deeper + 2

abbrev pub decreases-object_list : goal.decreases-object_list
decreases-object_list l = 4 * l.deeper + 3

-- the objects so far, and then those that are left
abbrev pub invariant-object_list-nodes : goal.invariant-object_list-nodes
invariant-object_list-nodes l =
    trees_after (tree_at l.fn.units 32 l.fn.deeper) (map tree_of l.nodes.items) (ahead l.rest)
    ≡ tree_list_at (tree_at l.fn.units 32 l.fn.deeper) (ahead l.fn.tokens)

abbrev pub decreases-object_list-nodes : goal.decreases-object_list-nodes
decreases-object_list-nodes l = length (ahead l.rest)
