-- The releases of each cyclic task of a program are on time in every run without a stop in which each of its activations ends within its period.
use Rattle.std.specs.Prelude.{◌≡◌, ℕ, ◌≤◌, List, Some, slice_get, refl}
use Rattle.std.proofs.Common.{sym, ap, subst, arith}
use Rattle.ada_tree.specs.Programs.{Program}
use Rattle.ada_tree.specs.Rules.{MeetsRules}
use Rattle.arrivals_tree.specs.Arriving.{Arrivals}
use Rattle.arrivals_tree.specs.Acceptance.{IsAccepted}
use Rattle.trace_tree.specs.declared.event.Event as machine
use Rattle.machine.specs.Systems.{TaskUnit, ReleasePattern, Periodic, Requested, system}
use Rattle.machine.specs.States.{Effects, Asleep, Readiness, first_wait, first_time}
use Rattle.machine.specs.Meanings.{Meaning}
use Rattle.guarantee.specs.Events.{named}
use Rattle.guarantee.specs.Releases.{releases, AreOnTime}
use Rattle.guarantee.specs.Bounded.{Responds}
use Rattle.guarantee.specs.Allowed.{IsPeriodic}
use Rattle.guarantee.specs.MachineLaw.{NeverStops}
use Rattle.law_written.proofs.Shared.Claims.{timing_at}
use Rattle.law_releases.proofs.Periodic.{IsAhead, OnTime, on-time-carried}
use Rattle.law_releases.proofs.Shared.CarriedRuns.{carried}
use Rattle.law_releases.specs.Laws.{EndsWithinPeriod, CyclicTasksAreOnTime}
use Rattle.law_releases.proofs.Shared.Tasks.{each_task}

-- the releases of a cyclic thread
pub on_time : (limit : ℕ) (p : Program) (r : Arrivals) (trace : List machine.Event) (k : ℕ) (th : TaskUnit) (offset period ticks : ℕ) → MeetsRules p
    → IsAccepted limit p r → Meaning p r trace → NeverStops (named p trace)
    → slice_get (system p r).threads k ≡ Some th → th.timing ≡ Periodic offset period → ticks ≤ period
    → Responds r.until (named p trace) (record { thread = th.name; ticks = ticks })
    → AreOnTime period r.until offset (releases th.name (named p trace))
on_time limit p r trace k th offset period ticks meets accepted m quiet at timing short responds =
    let N : ℕ → Type 0 = λ n. AreOnTime period r.until n (releases th.name (named p trace)) in
    let waits : first_wait th.timing ≡ Asleep offset = ap first_wait timing in
    let first : first_time th.timing ≡ offset = ap first_time timing in
    let A : Readiness → Type 0 = λ rd. IsAhead th.name period r.until ticks Effects 0 rd (first_time th.timing) (named p trace) in
    subst N first
    (carried limit p r trace k th offset period (OnTime th.name period r.until ticks)
    (on-time-carried (system p r) th offset period ticks timing short)
    meets accepted m quiet at timing refl responds (subst A (sym waits) (sym first, omega arith)))

-- all cyclic tasks
pub are_periodic : (limit : ℕ) → CyclicTasksAreOnTime limit
are_periodic limit p r trace meets accepted m quiet =
    each_task p r (λ t. EndsWithinPeriod r.until (named p trace) t.name t.timing → IsPeriodic r.until (named p trace) t.name t.timing) (λ k th at.
    by k th at th.timing refl)
  where
    by : (k : ℕ) (th : TaskUnit) → slice_get (system p r).threads k ≡ Some th → (timing : ReleasePattern) → th.timing ≡ timing
        → EndsWithinPeriod r.until (named p trace) th.name (timing_at timing) → IsPeriodic r.until (named p trace) th.name (timing_at timing)
    by k th at (Periodic offset period) is ends = on_time limit p r trace k th offset period ends.0 meets accepted m quiet at is ends.1 ends.2
    by k th at (Requested op ceiling separation jitter external) is ends = tt
