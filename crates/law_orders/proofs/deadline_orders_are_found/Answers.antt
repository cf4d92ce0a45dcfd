use Rattle.law_orders.proofs.Shared.DeadlineFound.{deadline-found}
use Rattle.law_orders.proofs.deadline_orders_are_found.Goals as goal

pub returns : goal.returns
returns c = deadline-found
