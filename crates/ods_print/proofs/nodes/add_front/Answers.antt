use Rattle.seq_print.proofs.Shared.Chains.{writes-same, writes-then}
use Rattle.ods_print.proofs.Lines.{front-node}
use Rattle.ods_print.proofs.nodes.add_front.Goals as goal

pub returns : goal.returns
returns c =
    writes-same _ c.args.into.now.items _ _ _ (front-node c.args.level c.deeper-inner.result c.args.node.now c.deeper-inner.ensures)
    (writes-then _ c.args.into.now.items c.add_object.new.into.items _ _ _ c.in_ok-add_object.ensures
    (writes-then _ c.add_object.new.into.items c.add_section.new.into.items _ _ _ (rw c.as_slice.ensures.value at c.in_ok-add_section.ensures)
    (writes-then _ c.add_section.new.into.items c.add_section-2.new.into.items _ _ _ (rw c.as_slice-2.ensures.value at c.in_ok-add_section-2.ensures)
    (writes-then _ c.add_section-2.new.into.items c.add_section-3.new.into.items _ _ _
    (rw c.as_slice-3.ensures.value at c.in_ok-add_section-3.ensures)
    (writes-then _ c.add_section-3.new.into.items c.add_section-4.new.into.items _ _ _
    (rw c.as_slice-4.ensures.value at c.in_ok-add_section-4.ensures)
    (writes-then _ c.add_section-4.new.into.items c.add_bodies.new.into.items _ _ _ (rw c.as_slice-5.ensures.value at c.in_ok-add_bodies.ensures)
    c.add_thread.ensures))))))
