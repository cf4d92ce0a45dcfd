use Rattle.std.proofs.Common.{◌≡◌, length, subst, arith}
use Rattle.ods_tree.specs.Trees.{flat_of}
use Rattle.law_orders.specs.Orders.{IsFilledFrom}
use Rattle.priority_search.specs.Steps.{AreByDeadline}
use Rattle.priority_search.proofs.FillSteps.{none-filled, step-kept}
use Rattle.priority_search.proofs.filling.fill.Goals as goal

pub places-init : goal.places-init
places-init c =
    let f = flat_of c.args.basis.now.flat.now in
    let e : length c.args.order.now.items ≡ c.len-free.result = omega (arith, c.len-free.ensures, c.args.order.now.ok.0) in
    record {
      order = c.requires.order;
      falling = subst (λ n. AreByDeadline f n c.args.order.now.items) e c.requires.by_deadline;
      filled = subst (λ n. IsFilledFrom f n c.args.order.now.items) e (none-filled f c.args.order.now.items);
      few = omega (arith, e);
    }

pub places-preserved : goal.places-preserved
places-preserved c =
    let found = rw c.in-Some.is at c.in_ok-next.ensures.found in
    let kept = step-kept (flat_of c.args.basis.now.flat.now) c.requires.sound c.places.order.items c.move_back.new.order.items c.places.free
    c.in-Some.at c.places.invariant.order c.places.invariant.falling c.places.invariant.filled c.places.invariant.few
    (rw c.as_slice.ensures.value at found) c.in_ok-move_back-in-Some.ensures in
    record { order = kept.order; falling = kept.falling; filled = kept.filled; few = kept.few }

pub returns-clause-filled : goal.returns-clause-filled
returns-clause-filled c = λ i own low e. c.places.invariant.filled i own (omega (arith, c.places-test.false)) e
