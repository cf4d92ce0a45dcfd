use Rattle.std.proofs.Common.{◌≡◌, ◌++◌, length}
use Rattle.hrthood_top.specs.Explanations.{places_text}
use Rattle.hrthood_top.proofs.chain_lines.add_names.Given as goal

-- the names so far, and those that are left
abbrev pub invariant-places : goal.invariant-places
invariant-places l = l.text.items ++ places_text l.threads l.left ≡ l.initial.text.items ++ places_text l.threads l.places

abbrev pub decreases-places : goal.decreases-places
decreases-places l = length l.left
