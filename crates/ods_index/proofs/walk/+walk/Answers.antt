use Rattle.ods_index.proofs.Shared.WalkSteps.{walked}
use Rattle.ods_index.proofs.walk.+walk.Goals as goal

pub returns : goal.returns
returns t c =
    walked (record { node = c.args.node; parent = c.args.parent; siblings = c.args.siblings }) c.args.into.now.items c.push.new.self.items
    c.children.into.items
    c.deref-child-items.result.now c.children.child-index c.in_ok-push.ensures.items c.deref-child-items.ensures.value c.children-test.false
    c.children.invariant
