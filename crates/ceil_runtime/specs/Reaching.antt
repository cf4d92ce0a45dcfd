-- States of a run, but for order numbers: those that some steps lead to from the opening of what has what exclusion needs.
use Rattle.std.specs.Prelude.{ℕ, List}
use Rattle.arrivals_tree.specs.declared.arrivals.Arrival.{Arrival}
use Rattle.machine.specs.Systems.{System}
use Rattle.machine.specs.States.{State, opening}
use Rattle.machine.specs.Meanings.{run}
use Rattle.law_ceilings.specs.Premises.{MayExclude}
use Rattle.law_dispatching.specs.Renumbering.{DifferInOrders}

pub record IsReached (y : System) (s : State) : Type 0 where
  pub arrivals : List Arrival
  pub excludes : MayExclude y arrivals
  pub steps : ℕ
  pub differs : DifferInOrders (run y steps (opening y arrivals)).0 s
