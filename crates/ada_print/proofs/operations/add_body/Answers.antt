use Rattle.std.proofs.Common.{◌+◌, add-one}
use Rattle.seq_tree.specs.Trees.{operation_of}
use Rattle.seq_print.proofs.Shared.Chains.{writes-added, writes-same, writes-then}
use Rattle.ada_print.proofs.HeadTexts.{body-text}
use Rattle.ada_print.proofs.operations.add_body.Goals as goal

pub returns : goal.returns
returns c =
    writes-same _ c.args.into.now.items _ _ _ (body-text c.args.level (c.args.level + 1) (operation_of c.args.op.now) (add-one c.args.level))
    (writes-then _ c.args.into.now.items c.put_indent.new.into.items _ _ _ c.in_ok-put_indent.ensures
    (writes-then _ c.put_indent.new.into.items c.add_head.new.into.items _ _ _ c.in_ok-add_head.ensures
    (writes-then _ c.add_head.new.into.items c.put.new.into.items _ _ _ c.in_ok-put.ensures
    (writes-then _ c.put.new.into.items c.add_data.new.into.items _ _ _ (rw c.deref.ensures.value at c.in_ok-add_data.ensures)
    (writes-then _ c.add_data.new.into.items c.put_line.new.into.items _ _ _ c.in_ok-put_line.ensures
    (writes-then _ c.put_line.new.into.items c.print_block.new.into.items _ _ _ c.in_ok-print_block.ensures
    (writes-then _ c.print_block.new.into.items c.put_indent-2.new.into.items _ _ _ c.in_ok-put_indent-2.ensures
    (writes-added _ _ _ _ c.put_name.ensures))))))))
