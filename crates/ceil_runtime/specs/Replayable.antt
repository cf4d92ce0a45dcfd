-- What is asked of a program and its arrivals before a run: all that their readers promise.
use Rattle.ada_tree.specs.Programs.{Program}
use Rattle.seq_tree.specs.Proper.{within_limits}
use Rattle.ada_tree.specs.Words.{is_ada_name}
use Rattle.ada_tree.specs.Proper.{IsProperProgram}
use Rattle.ada_tree.specs.Rules.{MeetsRules}
use Rattle.arrivals_tree.specs.Arriving.{Arrivals}
use Rattle.arrivals_tree.specs.Acceptance.{IsAccepted}
use Rattle.arrivals_tree.specs.Arrived.{horizon_limit}

-- a program and arrivals that can be run
pub record IsReplayable (p : Program) (a : Arrivals) : Type 0 where
  pub proper : IsProperProgram (within_limits is_ada_name) p
  pub meets : MeetsRules p
  pub accepted : IsAccepted horizon_limit p a
