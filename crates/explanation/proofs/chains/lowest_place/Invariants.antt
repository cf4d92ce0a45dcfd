use Rattle.std.proofs.Common.{◌≡◌, fold, length}
use Rattle.std.specs.Prelude.{max}
use Rattle.explanation.proofs.chains.lowest_place.Given as goal

-- the place so far, and what is left
abbrev pub invariant-places : goal.invariant-places
invariant-places l = fold (λ lowest place. max lowest place) l.lowest l.left ≡ fold (λ lowest place. max lowest place) 0 l.chain

abbrev pub decreases-places : goal.decreases-places
decreases-places l = length l.left
