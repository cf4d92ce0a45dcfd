-- States that a run comes to, but for order numbers: the opening is one, and so is each that steps lead to; there data are at home.
use Rattle.std.specs.Prelude.{◌≡◌, ℕ, ◌+◌, List}
use Rattle.std.proofs.Common.{sym, subst}
use Rattle.std.proofs.lemmas.List.{length-map, length-replicate}
use Rattle.arrivals_tree.specs.declared.arrivals.Arrival.{Arrival}
use Rattle.trace_tree.specs.declared.event.Event.{Event}
use Rattle.machine.specs.Systems.{System}
use Rattle.machine.specs.States.{State, opening}
use Rattle.machine.specs.Releases.{Next}
use Rattle.machine.specs.Meanings.{run}
use Rattle.machine.proofs.Shared.RunLaws.{run_add}
use Rattle.law_ceilings.specs.Premises.{MayExclude}
use Rattle.law_dispatching.specs.Renumbering.{DifferInOrders}
use Rattle.law_dispatching.proofs.Shared.Renumbered.{renumbered_none, renumbered_runs, renumbered_then}
use Rattle.law_ceilings.specs.Homes.{AreHome, EntersHome}
use Rattle.law_ceilings.proofs.Shared.Entering.{home-renumbered, run-home}
use Rattle.ceil_runtime.specs.Reaching.{IsReached}

-- the opening
pub opening-reached : (y : System) (as' : List Arrival) → MayExclude y as' → IsReached y (opening y as')
opening-reached y as' ex =
    record { arrivals = as'; excludes = ex; steps = 0; differs = renumbered_none (opening y as') (simp (length-replicate, length-map)) }

-- steps lead on to states that a run comes to, and other order numbers leave them so
pub reached-run : (y : System) (n : ℕ) (s s' : State) (told : List Event) → run y n s ≡ (s', told) → IsReached y s → IsReached y s'
reached-run y n s s' told runs r = record {
  arrivals = r.arrivals;
  excludes = r.excludes;
  steps = r.steps + n;
  differs =
      let first : State = (run y r.steps (opening y r.arrivals)).0 in
      let D : Next → Type 0 = λ z. DifferInOrders z.0 s' in
      let E : Next → Type 0 = λ z. DifferInOrders (run y n first).0 z.0 in
      subst D (sym (run_add y r.steps n (opening y r.arrivals))) (subst E runs (renumbered_runs y n first s r.differs));
}

pub reached-renumbered : (y : System) (s t : State) → DifferInOrders s t → IsReached y s → IsReached y t
reached-renumbered y s t differ r = record {
  arrivals = r.arrivals;
  excludes = r.excludes;
  steps = r.steps;
  differs = renumbered_then (run y r.steps (opening y r.arrivals)).0 s t r.differs differ;
}

-- data are at home there, and a task that enters an object finds them
pub reached-home : (y : System) (s : State) → IsReached y s → AreHome y s × EntersHome y s
reached-home y s r =
    home-renumbered y (run y r.steps (opening y r.arrivals)).0 s r.differs.same (run-home y r.arrivals r.excludes r.steps)
