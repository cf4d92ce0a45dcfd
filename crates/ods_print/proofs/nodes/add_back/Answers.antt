use Rattle.seq_print.proofs.Shared.Chains.{writes-same, writes-then}
use Rattle.ods_print.proofs.Lines.{back-node}
use Rattle.ods_print.proofs.nodes.add_back.Goals as goal

pub returns : goal.returns
returns c =
    writes-same _ c.args.into.now.items _ _ _ (back-node c.args.level c.deeper.result c.args.node.now c.deeper.ensures)
    (writes-then _ c.args.into.now.items c.add_section.new.into.items _ _ _ (rw c.as_slice.ensures.value at c.in_ok-add_section.ensures)
    c.put_named.ensures)
