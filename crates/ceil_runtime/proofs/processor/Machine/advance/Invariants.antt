use Rattle.std.proofs.Common.{◌≡◌, ◌≤◌, [], false}
use Rattle.ceil_runtime.specs.Left.{left}
use Rattle.ceil_runtime.specs.Processing.{Follows}
use Rattle.ceil_runtime.specs.Shown.{IsWhole, running_of, snapshot_of}
use Rattle.ceil_runtime.specs.Stepping.{steps_left}
use Rattle.ceil_runtime.proofs.processor.Machine.advance.Given as goal

-- the steps so far have told nothing
abbrev pub invariant-steps : goal.invariant-steps
invariant-steps l = record {
  running : l.self.stopped ≡ false;
  whole : IsWhole l.self;
  empty : l.events ≡ [];
  within : left (running_of l.self) ≤ left (running_of l.fn.self);
  follows : Follows (running_of l.fn.self) [] (running_of l.self);
}

abbrev pub decreases-steps : goal.decreases-steps
decreases-steps l = steps_left (snapshot_of l.self)
