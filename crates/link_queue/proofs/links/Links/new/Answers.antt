use Rattle.link_queue.proofs.Held.{holds-none}
use Rattle.link_queue.proofs.links.Links.new.Goals as goal

pub invariant_of-result : goal.invariant_of-result
invariant_of-result c = (holds-none c.in_ok-slots.slots.items c.args.n (c.in_ok-slots.ensures.items_if_clones_equal (λ y h. h))).table

pub returns : goal.returns
returns c = (holds-none c.in_ok-slots.slots.items c.args.n (c.in_ok-slots.ensures.items_if_clones_equal (λ y h. h))).shows
