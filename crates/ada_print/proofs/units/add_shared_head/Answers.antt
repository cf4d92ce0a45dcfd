use Rattle.std.proofs.Common.{map}
use Rattle.seq_tree.specs.Trees.{operation_of}
use Rattle.seq_print.proofs.Shared.Chains.{writes-same, writes-then}
use Rattle.ada_print.proofs.Layouts.{shared-head}
use Rattle.ada_print.proofs.units.add_shared_head.Goals as goal

pub returns : goal.returns
returns c =
    writes-same _ c.args.into.now.items _ _ _ (shared-head c.args.ceiling c.args.vars.now (map operation_of c.args.ops.now))
    (writes-then _ c.args.into.now.items c.put_number.new.into.items _ _ _ c.in_ok-put_number.ensures
    (writes-then _ c.put_number.new.into.items c.add_declarations.new.into.items _ _ _ c.in_ok-add_declarations.ensures
    (writes-then _ c.add_declarations.new.into.items c.put.new.into.items _ _ _ c.in_ok-put.ensures
    (writes-then _ c.put.new.into.items c.add_data.new.into.items _ _ _ c.in_ok-add_data.ensures
    (writes-then _ c.add_data.new.into.items c.put-2.new.into.items _ _ _ c.in_ok-put-2.ensures
    c.add_renamings.ensures)))))
