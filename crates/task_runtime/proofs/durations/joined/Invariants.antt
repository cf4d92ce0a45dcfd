use Rattle.std.proofs.Common.{◌≡◌, ◌++◌, drop}
use Rattle.arrivals_tree.specs.Arriving.{durations}
use Rattle.task_runtime.specs.Libraries.{handed}
use Rattle.task_runtime.proofs.durations.joined.Given as goal

-- the durations of the lists so far are joined
abbrev pub invariant-lists : goal.invariant-lists
invariant-lists l = l.ticks.items ++ durations (handed (drop l.list-index l.work)) l.task ≡ durations (handed l.work) l.task
