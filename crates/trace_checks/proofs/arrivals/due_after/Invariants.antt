use Rattle.std.proofs.Common.{◌≡◌, length}
use Rattle.trace_checks.specs.Arriving.{due_after}
use Rattle.trace_checks.proofs.arrivals.due_after.Given as goal

-- what is due from what is left on
abbrev pub invariant-due : goal.invariant-due
invariant-due l = due_after l.until l.left l.time l.task l.value ≡ due_after l.until l.fn.due l.time l.task l.value

-- the arrivals that are left
abbrev pub decreases-due : goal.decreases-due
decreases-due l = length l.left
