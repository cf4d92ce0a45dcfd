use Rattle.std.proofs.Common.{◌<◌, length, arith}
use Rattle.late_response.proofs.Digits.{value-next, value-below, decided}
use Rattle.late_response.proofs.limbs.is_at_most.Goals as goal

pub digits-preserved : goal.digits-preserved
digits-preserved c =
    let inside : c.digits.index < length c.args.left.now = omega arith in
    let inside_right : c.digits.index < length c.args.right.now = omega arith in
    rw (value-next c.args.left.now c.digits.index 0 inside, value-next c.args.right.now c.digits.index 0 inside_right)
    (decided _ _ _ _ _ c.digits.at_most c.is_at_most_with-at_most.result
    (value-below c.args.left.now c.digits.index (λ k. let fits = c.type_inv.left k in omega arith))
    (value-below c.args.right.now c.digits.index (λ k. let fits = c.type_inv.right k in omega arith)) c.digits.invariant
    c.is_at_most_with-at_most.ensures)
