use Rattle.std.proofs.Common.{◌≡◌, ℕ, ◌<◌}
use Rattle.std.specs.List.{slice_get}
use Rattle.late_response.specs.Progress.{first_in}
use Rattle.late_response.proofs.solving.first_round.Given as goal

abbrev pub invariant-rows : goal.invariant-rows
invariant-rows l = (j : ℕ) → j < l.index → slice_get l.known j ≡ first_in (slice_get l.table j)
