use Rattle.std.proofs.Common.{◌≡◌, ◌+◌, ◌*◌, ◌/◌, ◌%◌, length, fold, arith, refl, lit≤, ap, ◌∙◌, sym}
use Rattle.late_response.specs.Limbs.{value}
use Rattle.late_response.specs.Utilisation.{plus}
use Rattle.late_response.proofs.Digits.{room-zero, fits-over, fits-next, fits-next-alone, fits-end, sum-next, few-next}
use Rattle.late_response.proofs.Digits.{each-first, row-period, rest-small, rest-whole, quotient-small, product-positive}
use Rattle.late_response.proofs.per_mille.utilisation.Goals as goal

pub rows-init : goal.rows-init
rows-init c = record {
  done = 0;
  count = omega arith;
  rows = c.requires.each;
  f = record { over = 0; under = 1 };
  sum = refl;
  under = refl;
  over = refl;
  positive = lit≤ tt;
  few = lit≤ tt;
  fits = omega (arith, room-zero);
  whole = lit≤ tt;
  nothing = refl;
  long_over = refl;
  long_under = refl;
  long_nothing = refl;
}

pub scale_and_add-requires-clause-fits : goal.scale_and_add-requires-clause-fits
scale_and_add-requires-clause-fits c =
    let first = each-first _ c.rows.left.now c.in-Some.more.now c.in-Some.row.now c.rows.invariant.rows c.in-Some.ensures.cases.0 in
    let period = row-period _ c.in-Some.row.now first.0 in
    let rest = rest-small (1000 * c.in-Some.row.now.cost) c.in-Some.row.now.period period.0 in
    rw (c.from-cost.ensures, c.from-period.ensures, c.rows.invariant.long_over)
    (fits-over (value c.rows.over) (value c.rows.under) c.in-Some.row.now.period _ c.rows.invariant.done period.1 (omega (arith, rest, period.1))
    c.rows.invariant.fits (omega (arith, c.rows.invariant.count, c.requires.count)))

pub scale_and_add-requires-in-Some-clause-fits : goal.scale_and_add-requires-in-Some-clause-fits
scale_and_add-requires-in-Some-clause-fits c =
    let first = each-first _ c.rows.left.now c.in-Some.more.now c.in-Some.row.now c.rows.invariant.rows c.in-Some.ensures.cases.0 in
    let period = row-period _ c.in-Some.row.now first.0 in
    rw c.rows.invariant.long_under
    (fits-next-alone (value c.rows.over) (value c.rows.under) c.in-Some.row.now.period c.rows.invariant.done period.1
    c.rows.invariant.fits (omega (arith, c.rows.invariant.count, c.requires.count)))

pub rows-preserved : goal.rows-preserved
rows-preserved c =
    let first = each-first _ c.rows.left.now c.in-Some.more.now c.in-Some.row.now c.rows.invariant.rows c.in-Some.ensures.cases.0 in
    let period = row-period _ c.in-Some.row.now first.0 in
    let scaled = 1000 * c.in-Some.row.now.cost in
    let rest = rest-small scaled c.in-Some.row.now.period period.0 in
    let over : value c.scale_and_add.new.digits
    ≡ value c.rows.over * c.in-Some.row.now.period + value c.rows.under * (scaled % c.in-Some.row.now.period)
    = rw (c.from-cost.ensures, c.from-period.ensures) at c.scale_and_add.ensures in
    let under : value c.scale_and_add-in-Some.new.digits ≡ value c.rows.under * c.in-Some.row.now.period
    = omega (arith, c.scale_and_add-in-Some.ensures) in
    record {
      done = c.rows.invariant.done + 1;
      count = omega (arith, c.rows.invariant.count, ap (λ l. length l) c.in-Some.ensures.cases.0);
      rows = first.1;
      f = plus c.rows.invariant.f c.in-Some.row.now;
      sum = ap (λ l. fold plus c.rows.invariant.f l) (sym c.in-Some.ensures.cases.0) ∙ c.rows.invariant.sum;
      under = under ∙ ap (λ n. n * c.in-Some.row.now.period) c.rows.invariant.under;
      over = rw (c.from-cost.ensures, c.from-period.ensures, over, c.rows.invariant.under)
          (sum-next c.rows.whole c.rows.invariant.f.under (value c.rows.over) c.rows.invariant.f.over c.in-Some.row.now.period c.in-Some.row.now.cost
          (scaled / c.in-Some.row.now.period) (scaled % c.in-Some.row.now.period) c.rows.invariant.over
          (rest-whole scaled c.in-Some.row.now.period period.0));
      positive = rw under (product-positive (value c.rows.under) c.in-Some.row.now.period c.rows.invariant.positive period.0);
      few = rw (over, under)
          (few-next (value c.rows.over) (value c.rows.under) c.in-Some.row.now.period _ c.rows.invariant.done c.rows.invariant.few rest);
      fits = rw (over, under)
          (fits-next (value c.rows.over) (value c.rows.under) c.in-Some.row.now.period _ c.rows.invariant.done period.1
          (omega (arith, rest, period.1)) c.rows.invariant.fits);
      whole = rw (c.from-cost.ensures, c.from-period.ensures)
          (omega (arith, quotient-small scaled c.in-Some.row.now.period period.0, first.0.cost, c.rows.invariant.whole));
      nothing = refl;
      long_over = omega (arith, c.scale_and_add.auto.digits, c.rows.invariant.long_over);
      long_under = omega (arith, c.scale_and_add-in-Some.auto.digits, c.rows.invariant.long_under);
      long_nothing = refl;
    }

pub quotient-requires-clause-fits : goal.quotient-requires-clause-fits
quotient-requires-clause-fits c = fits-end _ c.rows.invariant.done c.rows.invariant.fits (omega arith)
