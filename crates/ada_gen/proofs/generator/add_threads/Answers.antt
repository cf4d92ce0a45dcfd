use Rattle.std.proofs.Common.{◌<◌, length, arith}
use Rattle.std.specs.List.{zip}
use Rattle.ods_tree.specs.Trees.{thread_of}
use Rattle.ada_tree.specs.Trees.{unit_of}
use Rattle.guarantee.specs.Programs.{thread_unit}
use Rattle.ada_gen.proofs.UnitSteps.{beside, beside-length, pair-step}
use Rattle.ada_gen.proofs.generator.add_threads.Goals as goal

pub threads-preserved : goal.threads-preserved
threads-preserved c =
    let ps = c.args.order.now.threads.items in
    let cs = c.args.order.now.obcs.items in
    let p = c.index-priority.result.now in
    let q = c.index-ceiling.result.now in
    let h : c.threads.i < length ps = omega arith in
    let k : c.threads.i < length cs = omega arith in
    pair-step thread_of thread_unit unit_of c.deref-thread-items.result.now (zip ps cs) c.threads.i c.thread-item.result
    (p, q) c.threads.units.items c.push.new.self.items _ _
    c.threads-test.true (beside-length ps cs c.threads.i h k) c.thread-item.is
    (beside ps cs c.threads.i p q h k c.index-priority.ensures c.index-ceiling.ensures)
    c.in_ok-thread_unit.ensures c.in_ok-push.ensures.items c.threads.invariant
