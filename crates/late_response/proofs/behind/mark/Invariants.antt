use Rattle.std.proofs.Common.{◌≡◌, ℕ, ◌<◌, ◌≤◌}
use Rattle.std.specs.List.{slice_get}
use Rattle.late_response.specs.Progress.{marked_at}
use Rattle.late_response.proofs.behind.mark.Given as goal

abbrev pub invariant-rows : goal.invariant-rows
invariant-rows l = record {
  done : (j : ℕ) → j < l.index → slice_get l.known j ≡ marked_at l.first l.starter l.fn.known j;
  left : (j : ℕ) → l.index ≤ j → slice_get l.known j ≡ slice_get l.fn.known j;
}
