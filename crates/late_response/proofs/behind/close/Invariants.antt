use Rattle.std.proofs.Common.{◌≡◌, ℕ, ◌≤◌, length}
use Rattle.late_response.specs.Progress.{Stands}
use Rattle.late_response.proofs.Standing.{IsLostFrom}
use Rattle.late_response.proofs.behind.close.Given as goal

abbrev pub invariant-rows : goal.invariant-rows
invariant-rows l = record {
  lost : (k : ℕ) → Stands l.table k l.known → IsLostFrom l.table l.known k l.count l.starter;
  count : l.count ≤ length l.table;
}

abbrev pub decreases-rows : goal.decreases-rows
decreases-rows l = l.count
