use Rattle.std.proofs.Common.{◌≡◌, ◌↔◌, ◌≤◌, take, true}
use Rattle.late_response.specs.Limbs.{value}
use Rattle.late_response.proofs.limbs.is_at_most.Given as goal

abbrev pub invariant-digits : goal.invariant-digits
invariant-digits l = (l.at_most ≡ true) ↔ (value (take l.index l.left) ≤ value (take l.index l.right))
