use Rattle.std.proofs.Common.{◌≡◌, fold, length}
use Rattle.explanation.specs.Values.{value_at}
use Rattle.explanation.specs.Chains.{jitter_in}
use Rattle.explanation.proofs.chains.chain_jitter.Given as goal

-- the jitter so far, and what is left
abbrev pub invariant-places : goal.invariant-places
invariant-places l =
    fold (λ jitter p. jitter_in (value_at l.threads p)) l.jitter l.left ≡ fold (λ jitter p. jitter_in (value_at l.threads p)) 0 l.chain

abbrev pub decreases-places : goal.decreases-places
decreases-places l = length l.left
