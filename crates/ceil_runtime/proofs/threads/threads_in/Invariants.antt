use Rattle.std.proofs.Common.{◌≡◌, ◌≤◌, length, vec_capacity}
use Rattle.ceil_runtime.specs.Gathering.{AllThreads, IsThreadOf}
use Rattle.ceil_runtime.proofs.Gathered.{AreGathered}
use Rattle.ceil_runtime.proofs.threads.threads_in.Given as goal

-- the tasks of the units so far are gathered
abbrev pub invariant-units : goal.invariant-units
invariant-units l = record {
  place : l.place ≡ l.unit-index;
  gathered : AreGathered l.work l.units l.unit-index l.threads.items;
  each : AllThreads (IsThreadOf l.work l.units) l.threads.items;
  few : length l.threads.items ≤ l.unit-index;
  room : length l.units ≤ vec_capacity l.threads;
}
