use Rattle.std.proofs.Common.{◌≡◌, ◌-◌, length, false}
use Rattle.rt_response.specs.Response.{right_sides}
use Rattle.rt_response.proofs.Shared.Solving.{total, IsReached}
use Rattle.rt_response.proofs.rounds.settle.Given as goal

abbrev pub invariant-rounds : goal.invariant-rounds
invariant-rounds l = record {
  reached : IsReached l.table l.round l.bounds;
  long : length l.next ≡ length l.table;
  follows : l.first ≡ false → l.bounds ≡ right_sides l.table l.next;
}

-- the values rise, and stay within their limits
abbrev pub decreases-rounds : goal.decreases-rounds
decreases-rounds l = 30000000000 - total l.bounds
