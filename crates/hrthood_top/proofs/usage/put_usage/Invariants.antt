use Rattle.std.proofs.Common.{◌≤◌, map}
use Rattle.hrthood_words.specs.Views.{listed}
use Rattle.hrthood_words.specs.Words.{usage_of}
use Rattle.hrthood_top.proofs.Pieces.{IsWritten}
use Rattle.hrthood_top.proofs.Usages.{left_of}
use Rattle.hrthood_top.proofs.usage.put_usage.Given as goal

-- the line is written up to a verb
abbrev pub invariant-words : goal.invariant-words
invariant-words g l = record {
  later : g.E.Sink.faults l.fn.err ≤ g.E.Sink.faults l.err;
  written : IsWritten (g.E.Sink.written l.fn.err) (g.E.Sink.written l.err) (left_of l.before l.words l.word-index) (usage_of (map listed l.words));
}
