use Rattle.ods_tree.specs.Trees.{body_of}
use Rattle.seq_print.proofs.Shared.Chains.{writes-same, writes-then}
use Rattle.ods_print.proofs.Lines.{body-text}
use Rattle.ods_print.proofs.bodies.add_body.Goals as goal

pub returns : goal.returns
returns c =
    writes-same _ c.args.into.now.items _ _ _ (body-text c.args.level c.deeper-inner.result (body_of c.args.body.now) c.deeper-inner.ensures)
    (writes-then _ c.args.into.now.items c.put_named.new.into.items _ _ _ c.in_ok-put_named.ensures
    (writes-then _ c.put_named.new.into.items c.add_items.new.into.items _ _ _ (rw c.as_slice.ensures.value at c.in_ok-add_items.ensures)
    (writes-then _ c.add_items.new.into.items c.put_line.new.into.items _ _ _ c.in_ok-put_line.ensures
    (writes-then _ c.put_line.new.into.items c.print_block.new.into.items _ _ _ c.in_ok-print_block.ensures c.put_named-2.ensures))))
