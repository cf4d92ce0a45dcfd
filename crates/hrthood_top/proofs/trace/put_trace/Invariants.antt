use Rattle.std.proofs.Common.{◌≡◌, ◌≤◌, [], false}
use Rattle.ada_tree.specs.Trees.{program_of}
use Rattle.ceil_runtime.specs.Shown.{IsWhole, running_of}
use Rattle.ceil_runtime.specs.Left.{left}
use Rattle.hrthood_top.proofs.Tracing.{SoFar}
use Rattle.hrthood_top.proofs.trace.put_trace.Given as goal

-- the run goes on, its queues are those of its tasks, no event is left, and what was told so far is written or gathered
abbrev pub invariant-turns : goal.invariant-turns
invariant-turns g l = record {
  later : g.O.Sink.faults l.fn.out ≤ g.O.Sink.faults l.out;
  running : (running_of l.running).state.stopped ≡ false;
  whole : IsWhole l.running;
  system : (running_of l.running).system ≡ (running_of l.fn.machine).system;
  empty : l.events ≡ [];
  so_far : SoFar (program_of l.program) (running_of l.fn.machine) (running_of l.running) l.page (g.O.Sink.written l.fn.out) (g.O.Sink.written l.out);
}

abbrev pub decreases-turns : goal.decreases-turns
decreases-turns g l = left (running_of l.running)
