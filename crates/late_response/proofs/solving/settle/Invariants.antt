use Rattle.std.proofs.Common.{◌≡◌, ◌-◌, ◌≤◌, length}
use Rattle.late_response.specs.Progress.{Stands, AreSmall, total}
use Rattle.late_response.proofs.solving.settle.Given as goal

abbrev pub invariant-rounds : goal.invariant-rounds
invariant-rounds l = record {
  stands : Stands l.table l.round l.known;
  small : AreSmall l.known;
  room : length l.next ≡ length l.table;
  count : l.round ≤ total l.known;
}

-- the values rise, and stay small
abbrev pub decreases-rounds : goal.decreases-rounds
decreases-rounds l = 600000000030 - total l.known
