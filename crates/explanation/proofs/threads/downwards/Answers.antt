use Rattle.std.proofs.Common.{rules, ◌≡◌, ◌+◌, ◌-◌, ◌<◌, arith}
use Rattle.explanation.proofs.ThreadSteps.{counted-down}
use Rattle.explanation.proofs.threads.downwards.Goals as goal

pub priorities-preserved : goal.priorities-preserved
priorities-preserved c = record {
  same = counted-down c.args.first c.priorities.left _ _ _ _ (search rules) (search rules) c.in_ok-push.ensures.items c.priorities.invariant.same;
  few = omega (arith, c.priorities.invariant.few);
}
