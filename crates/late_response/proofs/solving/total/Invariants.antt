use Rattle.std.proofs.Common.{◌≡◌, ◌+◌, ◌*◌, ◌≤◌, length}
use Rattle.late_response.specs.Progress.{AreSmall, total}
use Rattle.late_response.proofs.solving.total.Given as goal

abbrev pub invariant-rows : goal.invariant-rows
invariant-rows l = record {
  small : AreSmall l.left;
  value : l.sum + total l.left ≡ total l.fn.known;
  fits : l.sum + length l.left * 20000000001 ≤ 30 * 20000000001;
}

abbrev pub decreases-rows : goal.decreases-rows
decreases-rows l = length l.left
