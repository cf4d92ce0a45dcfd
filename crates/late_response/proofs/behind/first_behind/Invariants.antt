use Rattle.std.proofs.Common.{ℕ, ◌<◌}
use Rattle.std.specs.List.{slice_get}
use Rattle.late_response.specs.Progress.{StartsAt, IsLiveIn}
use Rattle.late_response.proofs.behind.first_behind.Given as goal

abbrev pub invariant-rows : goal.invariant-rows
invariant-rows l = (i s : ℕ) → i < l.index → StartsAt l.table i s → IsLiveIn (slice_get l.known s) × (s < l.count)
