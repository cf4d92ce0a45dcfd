use Rattle.ods_tree.specs.Trees.{design_of}
use Rattle.ods_read.proofs.Shared.Counting.{objects-few}
use Rattle.bridge.proofs.Guarantees.{breaks}
use Rattle.bridge.proofs.taking.take.Goals as goal

pub check-requires : goal.check-requires
check-requires c = objects-few c.args.design.now (design_of c.in-Ok.read) c.in-Ok.ensures.says

pub returns-else-is_memory : goal.returns-else-is_memory
returns-else-is_memory c =
    breaks c.args.design.now (design_of c.in-Ok.read) c.in-Err-check.broken c.in-Ok.ensures.says c.if-is_memory.ensures c.in-Err-check.ensures
