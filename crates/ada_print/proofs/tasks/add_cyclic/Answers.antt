use Rattle.seq_tree.specs.Trees.{block_of}
use Rattle.seq_print.proofs.Shared.Chains.{writes-printed, writes-same, writes-then}
use Rattle.ada_print.proofs.Layouts.{cyclic-text}
use Rattle.ada_print.proofs.tasks.add_cyclic.Goals as goal

pub returns : goal.returns
returns c =
    writes-same _ c.args.into.now.items _ _ _ (cyclic-text c.args.offset c.args.period c.args.vars.now (block_of c.args.block.now))
    (writes-then _ c.args.into.now.items c.add_data.new.into.items _ _ _ c.in_ok-add_data.ensures
    (writes-then _ c.add_data.new.into.items c.put_number.new.into.items _ _ _ c.in_ok-put_number.ensures
    (writes-then _ c.put_number.new.into.items c.put_number-2.new.into.items _ _ _ c.in_ok-put_number-2.ensures
    (writes-then _ c.put_number-2.new.into.items c.print_block.new.into.items _ _ _ c.in_ok-print_block.ensures
    (writes-printed _ _ _ _ c.put.ensures)))))
