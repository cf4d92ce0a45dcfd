use Rattle.law_orders.proofs.Shared.OrderRankings.{order-ranking}
use Rattle.law_orders.proofs.orders_are_rankings.Goals as goal

pub returns : goal.returns
returns c = order-ranking
