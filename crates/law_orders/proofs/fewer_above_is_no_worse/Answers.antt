use Rattle.law_orders.proofs.Shared.Fewer.{fewer-above}
use Rattle.law_orders.proofs.fewer_above_is_no_worse.Goals as goal

pub returns : goal.returns
returns c = fewer-above
