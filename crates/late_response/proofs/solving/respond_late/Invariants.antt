use Rattle.std.proofs.Common.{◌≡◌, ℕ, ◌<◌, Some}
use Rattle.std.specs.List.{slice_get}
use Rattle.late_response.specs.declared.reach.Reach.{Reach}
use Rattle.late_response.specs.Late.{IsTold}
use Rattle.late_response.proofs.solving.respond_late.Given as goal

abbrev pub invariant-rows : goal.invariant-rows
invariant-rows l = (j : ℕ) (r : Reach) → j < l.index → slice_get l.found j ≡ Some r → IsTold l.table j r
