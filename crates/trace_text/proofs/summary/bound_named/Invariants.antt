use Rattle.std.proofs.Common.{◌≡◌, length}
use Rattle.trace_text.specs.Summaries.{bound_of}
use Rattle.trace_text.proofs.summary.bound_named.Given as goal

-- the bounds so far have other names
abbrev pub invariant-bounds : goal.invariant-bounds
invariant-bounds l = bound_of l.name l.left ≡ bound_of l.name l.bounds

abbrev pub decreases-bounds : goal.decreases-bounds
decreases-bounds l = length l.left
