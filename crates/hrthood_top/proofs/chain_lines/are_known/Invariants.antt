use Rattle.std.proofs.Common.{◌≡◌, length}
use Rattle.std.specs.Prelude.{is_some}
use Rattle.std.specs.List.{list_all}
use Rattle.explanation.specs.Values.{value_at}
use Rattle.hrthood_top.proofs.chain_lines.are_known.Given as goal

-- what is left decides
abbrev pub invariant-places : goal.invariant-places
invariant-places l = list_all (λ p. is_some (value_at l.threads p)) l.left ≡ list_all (λ p. is_some (value_at l.threads p)) l.places

abbrev pub decreases-places : goal.decreases-places
decreases-places l = length l.left
