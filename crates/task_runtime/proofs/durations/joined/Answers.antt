use Rattle.std.proofs.Common.{arith}
use Rattle.task_runtime.proofs.Joined.{joined-all, joined-more}
use Rattle.task_runtime.proofs.durations.joined.Goals as goal

pub lists-preserved : goal.lists-preserved
lists-preserved c =
    joined-more c.args.work.now c.lists.list-index c.args.task c.list-item.result c.lists.ticks.items _ _ c.lists-test.true c.list-item.is
    c.in_ok-add_list.ensures c.lists.invariant

pub returns : goal.returns
returns c = joined-all c.args.work.now c.lists.list-index c.args.task c.lists.ticks.items _ (omega (arith, c.lists-test.false)) c.lists.invariant
