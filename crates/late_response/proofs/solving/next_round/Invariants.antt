use Rattle.std.proofs.Common.{◌≡◌, ℕ, ◌<◌}
use Rattle.std.specs.List.{slice_get}
use Rattle.late_response.specs.Progress.{next_at}
use Rattle.late_response.proofs.solving.next_round.Given as goal

abbrev pub invariant-rows : goal.invariant-rows
invariant-rows l = (j : ℕ) → j < l.index → slice_get l.next j ≡ next_at l.table l.known l.round j
