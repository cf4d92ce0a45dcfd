use Rattle.std.proofs.Common.{◌≡◌, ◌+◌, ◌*◌, ◌≤◌, ◌-◌, length}
use Rattle.late_response.specs.Limbs.{value}
use Rattle.late_response.proofs.per_mille.quotient.Given as goal

abbrev pub invariant-times : goal.invariant-times
invariant-times l = record {
  next : value l.next ≡ (l.count + 1) * value l.under;
  at_most : l.count * value l.under ≤ value l.over;
  small : l.count ≤ 30;
  long : length l.next ≡ 32;
}

abbrev pub decreases-times : goal.decreases-times
decreases-times l = 31 - l.count
