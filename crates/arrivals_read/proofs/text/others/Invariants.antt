use Rattle.std.proofs.Common.{◌≡◌, length}
use Rattle.token_read.specs.Ahead.{ahead}
use Rattle.arrivals_read.specs.Readers.{others_at}
use Rattle.seq_read.proofs.Shared.Turns.{with_front}
use Rattle.arrivals_read.proofs.text.others.Given as goal

-- the durations so far, and then those of what is left
abbrev pub invariant-others : goal.invariant-others
invariant-others l = with_front l.others.items (others_at (ahead l.rest)) ≡ others_at (ahead l.fn.tokens)

abbrev pub decreases-others : goal.decreases-others
decreases-others l = length (ahead l.rest)
