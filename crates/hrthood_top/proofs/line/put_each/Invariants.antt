use Rattle.std.proofs.Common.{◌≤◌, drop}
use Rattle.hrthood_top.specs.Messages.{joined}
use Rattle.hrthood_top.proofs.Pieces.{IsWritten}
use Rattle.hrthood_top.proofs.line.put_each.Given as goal

-- a front of the pieces is written
abbrev pub invariant-pieces : goal.invariant-pieces
invariant-pieces g l = record {
  later : g.O.Sink.faults l.fn.out ≤ g.O.Sink.faults l.out;
  written : IsWritten (g.O.Sink.written l.fn.out) (g.O.Sink.written l.out) (joined (drop l.piece-index l.pieces)) (joined l.pieces);
}
