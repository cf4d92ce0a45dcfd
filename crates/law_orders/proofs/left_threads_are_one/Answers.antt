use Rattle.law_orders.proofs.Shared.FilledOrders.{left-same}
use Rattle.law_orders.proofs.left_threads_are_one.Goals as goal

pub returns : goal.returns
returns c = left-same
