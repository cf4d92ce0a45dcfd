use Rattle.std.proofs.Common.{◌≤◌}
use Rattle.hrthood_top.specs.Searches.{names_text}
use Rattle.hrthood_top.proofs.Pieces.{IsWritten}
use Rattle.hrthood_top.proofs.SearchSteps.{left_of}
use Rattle.hrthood_top.proofs.thread_names.put_names.Given as goal

-- a front of the names is written
abbrev pub invariant-names : goal.invariant-names
invariant-names g l = record {
  later : g.E.Sink.faults l.fn.err ≤ g.E.Sink.faults l.err;
  written : IsWritten (g.E.Sink.written l.fn.err) (g.E.Sink.written l.err) (left_of l.names l.name-index) (names_text l.names);
}
