use Rattle.std.proofs.Common.{◌≡◌, length, map}
use Rattle.token_read.specs.Ahead.{ahead}
use Rattle.arrivals_read.specs.Readers.{works_at}
use Rattle.arrivals_read.specs.Texts.{work_text}
use Rattle.seq_read.proofs.Shared.Turns.{with_front}
use Rattle.arrivals_read.proofs.text.works.Given as goal

-- the durations so far, and then those of what is left
abbrev pub invariant-works : goal.invariant-works
invariant-works l = with_front (map work_text l.works.items) (works_at (ahead l.rest)) ≡ works_at (ahead l.fn.tokens)

abbrev pub decreases-works : goal.decreases-works
decreases-works l = length (ahead l.rest)
