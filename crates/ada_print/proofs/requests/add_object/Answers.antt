use Rattle.seq_tree.specs.Trees.{signature_of}
use Rattle.seq_print.proofs.Shared.Chains.{writes-printed, writes-same, writes-then}
use Rattle.ada_print.proofs.Layouts.{object-text}
use Rattle.ada_print.proofs.requests.add_object.Goals as goal

pub returns : goal.returns
returns c =
    writes-same _ c.args.into.now.items _ _ _ (object-text (signature_of c.args.op.now))
    (writes-then _ c.args.into.now.items c.put.new.into.items _ _ _ c.in_ok-put.ensures
    (writes-then _ c.put.new.into.items c.add_head.new.into.items _ _ _ c.in_ok-add_head.ensures
    (writes-then _ c.add_head.new.into.items c.put-2.new.into.items _ _ _ c.in_ok-put-2.ensures
    (writes-then _ c.put-2.new.into.items c.put_kept.new.into.items _ _ _ (rw c.deref.ensures.value at c.in_ok-put_kept.ensures)
    (writes-then _ c.put_kept.new.into.items c.put-3.new.into.items _ _ _ c.in_ok-put-3.ensures
    (writes-then _ c.put-3.new.into.items c.put_name.new.into.items _ _ _ c.in_ok-put_name.ensures
    (writes-printed _ _ _ _ c.put-4.ensures)))))))
