-- Each cyclic task of offset 0 and period 1 of a program is released at 0, and again at each instant at which it ends, in every run without a stop.
use Rattle.std.specs.Prelude.{◌≡◌, ℕ, List, Option, Some, slice_get, refl}
use Rattle.std.proofs.Common.{sym, ◌∙◌, ap, ap₂, subst, arith}
use Rattle.seq_tree.specs.Names.{Name}
use Rattle.ods_tree.specs.Flats as flats
use Rattle.ods_tree.specs.Walk.{only_if}
use Rattle.ada_tree.specs.Programs.{Program}
use Rattle.ada_tree.specs.Rules.{MeetsRules}
use Rattle.arrivals_tree.specs.Arriving.{Arrivals}
use Rattle.arrivals_tree.specs.Acceptance.{IsAccepted}
use Rattle.trace_tree.specs.declared.event.Event as machine
use Rattle.machine.specs.Systems.{TaskUnit, ReleasePattern, Periodic, Requested, system}
use Rattle.machine.specs.States.{Effects, Asleep, Readiness, first_wait, first_time}
use Rattle.machine.specs.Meanings.{Meaning}
use Rattle.guarantee.specs.Software.{Task, program_software}
use Rattle.guarantee.specs.Events.{named}
use Rattle.guarantee.specs.MachineLaw.{NeverStops}
use Rattle.law_written.proofs.Shared.Claims.{timing_at}
use Rattle.law_releases.proofs.Shared.CarriedRuns.{carried}
use Rattle.law_releases.proofs.Shared.Tasks.{thread_of}
use Rattle.background_designs.specs.Turns.{turns, AreAtOnce, IsRestless}
use Rattle.law_backgrounds.proofs.Restless.{IsPrompt, idle_since, AtOnce, at-once-carried}

-- the turns of a task that is released at once
pub at_once : (limit : ℕ) (p : Program) (r : Arrivals) (trace : List machine.Event) (k : ℕ) (th : TaskUnit) → MeetsRules p
    → IsAccepted limit p r → Meaning p r trace → NeverStops (named p trace)
    → slice_get (system p r).threads k ≡ Some th → th.timing ≡ Periodic 0 1 → IsRestless (named p trace) th.name
at_once limit p r trace k th meets accepted m quiet at timing =
    let waits : first_wait th.timing ≡ Asleep 0 = ap first_wait timing in
    let first : first_time th.timing ≡ 0 = ap first_time timing in
    let A : Readiness → Type 0 = λ rd. IsPrompt Effects 0 rd (first_time th.timing) in
    let I : Readiness → Type 0 = λ rd. AreAtOnce (idle_since 0 rd) (turns th.name (named p trace)) in
    subst I waits
    ((carried limit p r trace k th 0 1 (AtOnce th.name) (at-once-carried (system p r) th timing) meets accepted m quiet at timing).gives refl
    (subst A (sym waits) (sym first, omega arith)))

-- a task of a program
pub task_at_once : (limit : ℕ) (p : Program) (r : Arrivals) (trace : List machine.Event) (k : ℕ) (t : Task) → MeetsRules p → IsAccepted limit p r
    → Meaning p r trace → NeverStops (named p trace) → slice_get (program_software p).tasks k ≡ Some t → t.timing ≡ flats.Cyclic 1 0
    → IsRestless (named p trace) t.name
task_at_once limit p r trace k t meets accepted m quiet at timing =
    let th = thread_of p r k t at in
    let N : Name → Type 0 = λ n. IsRestless (named p trace) n in
    subst N (ap (λ z. z.name) th.2)
    (at_once limit p r trace k th.0 meets accepted m quiet th.1 (pattern th.0.timing (ap (λ z. z.timing) th.2 ∙ timing)))
  where
    pattern : (z : ReleasePattern) → timing_at z ≡ flats.Cyclic 1 0 → z ≡ Periodic 0 1
    pattern (Periodic offset period) e = ap₂ Periodic (offsets period offset 1 0 e) (periods period offset 1 0 e)
      where
        periods : (a b c d : ℕ) → flats.Cyclic a b ≡ flats.Cyclic c d → a ≡ c
        periods a b c d q = cc

        offsets : (a b c d : ℕ) → flats.Cyclic a b ≡ flats.Cyclic c d → b ≡ d
        offsets a b c d q = cc
    pattern (Requested op ceiling separation jitter external) e = absurd (differ (only_if external jitter) e)
      where
        differ : (j : Option ℕ) → flats.Sporadic op separation j ≡ flats.Cyclic 1 0 → ⊥
        differ j q = cc
