use Rattle.ods_tree.specs.Trees.{flat_of}
use Rattle.ada_tree.specs.Trees.{program_of}
use Rattle.analysis.specs.Trees.{ranks_of}
use Rattle.background.proofs.FrontTables.{made-text}
use Rattle.background.proofs.making.text_of.Goals as goal

pub returns : goal.returns
returns c =
    made-text c.args.first (flat_of c.args.flat.now) (ranks_of c.args.order.now) c.args.table.now.thread.items c.args.bounds.now
    (program_of c.in_ok-program.program) c.in_ok-text.text.items _ c.in_ok-text.ensures c.in_ok-program.ensures c.in_ok-print_ada.ensures
