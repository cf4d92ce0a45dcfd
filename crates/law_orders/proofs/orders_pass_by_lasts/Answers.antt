use Rattle.law_orders.proofs.Shared.Passing.{pass-by-lasts}
use Rattle.law_orders.proofs.orders_pass_by_lasts.Goals as goal

pub returns : goal.returns
returns c = pass-by-lasts
