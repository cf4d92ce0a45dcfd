use Rattle.std.proofs.Common.{map}
use Rattle.seq_tree.specs.Trees.{operation_of}
use Rattle.seq_print.proofs.Shared.Chains.{writes-printed, writes-same, writes-then}
use Rattle.ada_print.proofs.Layouts.{shared-body}
use Rattle.ada_print.proofs.units.add_shared.Goals as goal

pub returns : goal.returns
returns c =
    writes-same _ c.args.into.now.items _ _ _ (shared-body (map operation_of c.args.ops.now))
    (writes-then _ c.args.into.now.items c.put.new.into.items _ _ _ c.in_ok-put.ensures
    (writes-then _ c.put.new.into.items c.add_bodies.new.into.items _ _ _ c.in_ok-add_bodies.ensures
    (writes-printed _ _ _ _ c.put-2.ensures)))
