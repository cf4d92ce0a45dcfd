use Rattle.seq_print.proofs.Shared.Chains.{writes-same, writes-then}
use Rattle.ods_print.proofs.Lines.{node-text}
use Rattle.ods_print.proofs.nodes.+nodes.Goals as goal

pub add_node-returns : goal.add_node-returns
add_node-returns t c =
    writes-same _ c.args.into.now.items _ _ _ (node-text c.args.level c.deeper-inner.result c.deeper.result c.args.node.now c.deeper-inner.ensures
    c.deeper.ensures)
    (writes-then _ c.args.into.now.items c.add_front.new.into.items _ _ _ c.in_ok-add_front.ensures
    (writes-then _ c.add_front.new.into.items c.add_heading.new.into.items _ _ _ (rw c.as_slice.ensures.value at c.in_ok-add_heading.ensures)
    (writes-then _ c.add_heading.new.into.items c.add_nodes.new.into.items _ _ _ (rw c.as_slice-2.ensures.value at c.in_ok-add_nodes.ensures)
    c.add_back.ensures)))
