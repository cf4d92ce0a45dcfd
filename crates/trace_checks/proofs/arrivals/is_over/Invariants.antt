use Rattle.std.proofs.Common.{◌≡◌, length}
use Rattle.trace_checks.specs.Arriving.{is_over}
use Rattle.trace_checks.proofs.arrivals.is_over.Given as goal

-- whether what is left is over
abbrev pub invariant-due : goal.invariant-due
invariant-due l = is_over l.until l.left ≡ is_over l.until l.fn.due

-- the arrivals that are left
abbrev pub decreases-due : goal.decreases-due
decreases-due l = length l.left
