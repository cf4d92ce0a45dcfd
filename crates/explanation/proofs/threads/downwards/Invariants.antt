use Rattle.std.proofs.Common.{◌≡◌, ◌++◌, ◌≤◌}
use Rattle.analysis.specs.Ceilings.{numbered}
use Rattle.analysis.specs.Tables.{downwards}
use Rattle.explanation.proofs.threads.downwards.Given as goal

-- the priorities so far, and those that are left
abbrev pub invariant-priorities : goal.invariant-priorities
invariant-priorities l = record {
  same : l.found.items ++ numbered l.first (downwards l.left) ≡ numbered l.first (downwards l.count);
  few : l.left ≤ 31;
}

abbrev pub decreases-priorities : goal.decreases-priorities
decreases-priorities l = l.left
