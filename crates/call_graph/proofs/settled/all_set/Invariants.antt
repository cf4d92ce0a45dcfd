use Rattle.std.proofs.Common.{◌≡◌, drop}
use Rattle.std.specs.List.{list_all}
use Rattle.call_graph.proofs.settled.all_set.Given as goal

-- it is up to the marks that are left
abbrev pub invariant-marks : goal.invariant-marks
invariant-marks l = list_all (λ b. b) (drop l.mark-index l.marks) ≡ list_all (λ b. b) l.marks
