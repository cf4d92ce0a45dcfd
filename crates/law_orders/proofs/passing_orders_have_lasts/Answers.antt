use Rattle.law_orders.proofs.Shared.Passing.{passing-lasts}
use Rattle.law_orders.proofs.passing_orders_have_lasts.Goals as goal

pub returns : goal.returns
returns c = passing-lasts
