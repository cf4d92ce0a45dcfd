use Rattle.std.proofs.Common.{◌≤◌, length}
use Rattle.ods_tree.specs.Trees.{flat_of}
use Rattle.law_orders.specs.Orders.{IsOrder, IsFilledFrom}
use Rattle.priority_search.specs.Steps.{AreByDeadline}
use Rattle.priority_search.proofs.filling.fill.Given as goal

-- the places from here on are filled, and the threads before them still stand by deadline
abbrev pub invariant-places : goal.invariant-places
invariant-places l = record {
  order : IsOrder (flat_of l.basis.flat.now) l.order.items;
  falling : AreByDeadline (flat_of l.basis.flat.now) l.free l.order.items;
  filled : IsFilledFrom (flat_of l.basis.flat.now) l.free l.order.items;
  few : l.free ≤ length l.order.items;
}

abbrev pub decreases-places : goal.decreases-places
decreases-places l = l.free
