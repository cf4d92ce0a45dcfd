use Rattle.seq_tree.specs.Trees.{block_of}
use Rattle.seq_print.proofs.Shared.Chains.{writes-same, writes-then}
use Rattle.ods_print.proofs.Lines.{thread-text}
use Rattle.ods_print.proofs.bodies.add_thread.Goals as goal

pub returns-in_ok-print_block-in-Some : goal.returns-in_ok-print_block-in-Some
returns-in_ok-print_block-in-Some c =
    rw c.in-Some.is
    (writes-same _ c.args.into.now.items _ _ _ (thread-text c.args.level c.deeper.result (block_of c.in-Some.block) c.deeper.ensures)
    (writes-then _ c.args.into.now.items c.put_line.new.into.items _ _ _ c.in_ok-put_line-in-Some.ensures
    (writes-then _ c.put_line.new.into.items c.print_block.new.into.items _ _ _ c.in_ok-print_block-in-Some.ensures c.put_line-in-Some.ensures)))
