use Rattle.std.proofs.Common.{◌≡◌, ◌+◌, ◌*◌, ◌<◌, length, get_or, arith, add-one, ap, ap₂, ◌∙◌, take_all}
use Rattle.late_response.specs.Limbs.{value, room}
use Rattle.late_response.proofs.Digits.{room-suc, value-next, value-put, turn, carry-small, carried, left-next, left-here}
use Rattle.late_response.proofs.limbs.scale_and_add.Goals as goal

pub digits-preserved : goal.digits-preserved
digits-preserved c =
    let i = c.digits.index in
    let inside : c.digits.index < length c.digits.digits = omega arith in
    let inside_old : c.digits.index < length c.args.digits.now = omega arith in
    let inside_plus : c.digits.index < length c.args.plus.now = omega arith in
    let here = left-here c.digits.digits c.args.digits.now c.digits.index c.digits.invariant.left in
    let first : c.from.result * c.from-in-digits.result ≡ get_or c.args.digits.now c.digits.index 0 * c.args.by
    = ap₂ (λ x y. x * y) (c.from.ensures ∙ here) c.from-in-digits.ensures in
    let second : c.from-in-digits-2.result * c.from-in-digits-3.result ≡ get_or c.args.plus.now c.digits.index 0 * c.args.times
    = ap₂ (λ x y. x * y) c.from-in-digits-2.ensures c.from-in-digits-3.ensures in
    let digit : c.from.result < 4294967296 = omega (arith, c.from.ensures, here, c.from.type_inv) in
    let fits = c.type_inv.plus c.digits.index in
    let other : c.from-in-digits-2.result < 4294967296 = omega (arith, c.from-in-digits-2.ensures, fits) in
    record {
      done = rw (
        value-put c.digits.digits c.digits.index _ inside,
        value-next c.args.digits.now c.digits.index 0 inside_old,
        value-next c.args.plus.now c.digits.index 0 inside_plus,
      )
          (turn _ _ _ _ _ _ _ _ _ _ _ _ c.digits.invariant.done (omega (arith, first, second))
          (ap room (add-one c.digits.index) ∙ room-suc c.digits.index));
      left = left-next c.digits.digits c.args.digits.now c.digits.index _ c.digits.invariant.left;
      carry = rw (c.from-in-digits.ensures, c.from-in-digits-3.ensures)
          (carry-small c.from.result c.from-in-digits-2.result c.args.by c.args.times c.digits.carry digit other c.requires.by c.requires.times
          c.digits.invariant.carry);
    }

pub returns : goal.returns
returns c =
    let end : c.digits.index ≡ length c.args.digits.now = omega arith in
    let mine = ap (λ xs. value xs) (take_all c.digits.index c.digits.digits (omega arith)) in
    let old = ap (λ xs. value xs * c.args.by) (take_all c.digits.index c.args.digits.now (omega arith)) in
    let plus = ap (λ xs. value xs * c.args.times) (take_all c.digits.index c.args.plus.now (omega arith)) in
    carried (value c.digits.digits) (room c.digits.index) c.digits.carry (value c.args.digits.now * c.args.by + value c.args.plus.now * c.args.times)
    (omega (arith, c.digits.invariant.done, mine, old, plus)) (omega (arith, c.requires.fits, ap (λ n. room n) end))
