use Rattle.std.proofs.Common.{◌≡◌, [], false}
use Rattle.ceil_runtime.specs.Shown.{IsWhole, running_of}
use Rattle.lower_tests.proofs.openings.walk.Given as goal

-- the run goes on, its queues are those of its tasks, and no event is left
abbrev pub invariant-lines : goal.invariant-lines
invariant-lines g l = record {
  whole : IsWhole l.running;
  goes_on : (running_of l.running).state.stopped ≡ false;
  empty : l.events ≡ [];
}
