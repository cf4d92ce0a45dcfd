use Rattle.std.proofs.Common.{◌≤◌}
use Rattle.ada_tree.specs.Trees.{program_of}
use Rattle.hrthood_top.proofs.Gathering.{AreGathered}
use Rattle.hrthood_top.proofs.trace.put_lines.Given as goal

-- the lines so far are gathered
abbrev pub invariant-events : goal.invariant-events
invariant-events g l = record {
  later : g.O.Sink.faults l.fn.out ≤ g.O.Sink.faults l.out;
  so_far : AreGathered (program_of l.program) l.events l.event-index l.fn.page l.page (g.O.Sink.written l.fn.out) (g.O.Sink.written l.out);
}
