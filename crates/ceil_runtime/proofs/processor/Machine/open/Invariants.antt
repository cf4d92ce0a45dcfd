use Rattle.std.proofs.Common.{◌≡◌, ◌≤◌, length, take, vec_capacity}
use Rattle.ceil_runtime.specs.Starts.{AreOpen}
use Rattle.ceil_runtime.proofs.processor.Machine.open.Given as goal

-- the tasks so far are open
abbrev pub invariant-threads : goal.invariant-threads
invariant-threads l = record {
  opened : AreOpen l.fn.until l.fn.units l.code (take l.thread-index l.fn.threads) l.tasks.items l.links;
  size : l.links.size ≡ length l.fn.threads;
  place : l.task ≡ length l.tasks.items;
  count : length l.tasks.items ≡ l.thread-index;
  room : length l.fn.threads ≤ vec_capacity l.tasks;
}
