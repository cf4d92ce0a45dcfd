use Rattle.seq_tree.specs.Trees.{block_of, signature_of}
use Rattle.seq_print.proofs.Shared.Chains.{writes-printed, writes-same, writes-then}
use Rattle.ada_print.proofs.Layouts.{sporadic-text}
use Rattle.ada_print.proofs.requests.add_sporadic.Goals as goal

pub returns : goal.returns
returns c =
    writes-same _ c.args.into.now.items _ _ _ (sporadic-text (signature_of c.args.op.now) c.args.vars.now (block_of c.args.block.now))
    (writes-then _ c.args.into.now.items c.add_data.new.into.items _ _ _ c.in_ok-add_data.ensures
    (writes-then _ c.add_data.new.into.items c.add_object.new.into.items _ _ _ c.in_ok-add_object.ensures
    (writes-then _ c.add_object.new.into.items c.add_waiting.new.into.items _ _ _ (rw c.deref.ensures.value at c.in_ok-add_waiting.ensures)
    (writes-then _ c.add_waiting.new.into.items c.print_block.new.into.items _ _ _ c.in_ok-print_block.ensures
    (writes-printed _ _ _ _ c.put.ensures)))))
