use Rattle.std.proofs.Common.{◌≡◌, [], false, length}
use Rattle.ada_tree.specs.Trees.{program_of}
use Rattle.ceil_runtime.specs.Shown.{IsWhole, running_of}
use Rattle.ceil_runtime.specs.Left.{left}
use Rattle.hrthood_top.proofs.Summed.{IsCounted}
use Rattle.hrthood_top.proofs.sample.summarise.Given as goal

-- the run goes on, its queues are those of its tasks, no event is left, and what was told so far is counted
abbrev pub invariant-turns : goal.invariant-turns
invariant-turns l = record {
  running : (running_of l.running).state.stopped ≡ false;
  whole : IsWhole l.running;
  system : (running_of l.running).system ≡ (running_of l.fn.machine).system;
  empty : l.events ≡ [];
  so_far : IsCounted (length (program_of l.program).units) (running_of l.fn.machine) (running_of l.running) l.summary;
}

abbrev pub decreases-turns : goal.decreases-turns
decreases-turns l = left (running_of l.running)
