use Rattle.std.proofs.Common.{◌≡◌, length, map}
use Rattle.token_read.specs.Ahead.{ahead}
use Rattle.ada_read.specs.Heads.{head_of}
use Rattle.ada_read.specs.Readers.{heads_at}
use Rattle.seq_read.proofs.Shared.Turns.{with_front}
use Rattle.ada_read.proofs.heads.heads.Given as goal

-- the specifications so far, and then those of what is left
abbrev pub invariant-heads : goal.invariant-heads
invariant-heads l = with_front (map head_of l.heads.items) (heads_at (ahead l.rest)) ≡ heads_at (ahead l.fn.tokens)

abbrev pub decreases-heads : goal.decreases-heads
decreases-heads l = length (ahead l.rest)
