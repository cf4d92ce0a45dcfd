use Rattle.std.proofs.Common.{◌≡◌, ◌++◌, drop, map}
use Rattle.explanation.specs.Findings.{solved_of}
use Rattle.explanation.proofs.finding.solved.Given as goal

-- the rows so far, and those of the bounds that are left
abbrev pub invariant-bounds : goal.invariant-bounds
invariant-bounds l = l.reaches.items ++ map solved_of (drop l.bound-index l.bounds) ≡ map solved_of l.bounds
