use Rattle.std.proofs.Common.{sym, map, ◌∙◌}
use Rattle.std.proofs.lemmas.List.{map-append}
use Rattle.ods_tree.specs.Trees.{tree_of}
use Rattle.token_read.specs.Ahead.{ahead}
use Rattle.seq_read.proofs.Shared.Turns.{onward-turn, turn-shorter}
use Rattle.ods_read.specs.ObjectReaders.{next_is_object, tree_at}
use Rattle.ods_read.proofs.Taking.{takes-tree}
use Rattle.ods_read.proofs.ObjectSteps.{close_list}
use Rattle.ods_read.proofs.objects.+objects.Goals as goal

pub object_list-nodes-smaller : goal.object_list-nodes-smaller
object_list-nodes-smaller t c =
    turn-shorter (tree_at c.args.units 32 c.args.deeper) (ahead c.nodes.rest) (ahead c.in_ok-next.after) (tree_of c.in_ok-next.next)
    (takes-tree c.args.units c.args.deeper) c.in_ok-next.ensures

pub object_list-nodes-preserved : goal.object_list-nodes-preserved
object_list-nodes-preserved t c =
    rw (c.in_ok-push-2.ensures.items, map-append)
    (onward-turn next_is_object (tree_at c.args.units 32 c.args.deeper) close_list (map tree_of c.nodes.nodes.items) (ahead c.nodes.rest)
    (tree_of c.in_ok-next.next) (ahead c.in_ok-next.after)
    (takes-tree c.args.units c.args.deeper) (sym c.nodes-test.ensures) c.in_ok-next.ensures
    ∙ c.nodes.invariant)
