use Rattle.std.proofs.Common.{◌≡◌, length, map}
use Rattle.token_read.specs.Ahead.{ahead}
use Rattle.arrivals_read.specs.Readers.{requests_at}
use Rattle.arrivals_read.specs.Texts.{request_text}
use Rattle.seq_read.proofs.Shared.Turns.{with_front}
use Rattle.arrivals_read.proofs.text.requests.Given as goal

-- the requests so far, and then those of what is left
abbrev pub invariant-requests : goal.invariant-requests
invariant-requests l = with_front (map request_text l.requests.items) (requests_at (ahead l.rest)) ≡ requests_at (ahead l.fn.tokens)

abbrev pub decreases-requests : goal.decreases-requests
decreases-requests l = length (ahead l.rest)
