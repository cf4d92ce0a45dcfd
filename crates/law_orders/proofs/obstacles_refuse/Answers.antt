use Rattle.law_orders.proofs.Shared.Obstacles.{obstacles-refuse}
use Rattle.law_orders.proofs.obstacles_refuse.Goals as goal

pub returns : goal.returns
returns c = obstacles-refuse
