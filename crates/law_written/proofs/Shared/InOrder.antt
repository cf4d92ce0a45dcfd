-- The order of what a run tells: times don't fall, every deed is one of a task, and the horizon comes once and last.
use Rattle.std.specs.Prelude.{◌≡◌, ℕ, zero, suc, ◌≤◌, Bool, true, false, ◌||◌, List, [], ◌∷◌, ◌++◌, map, refl}
use Rattle.std.specs.List.{list_any}
use Rattle.std.proofs.Common.{sym, ◌∙◌, ap, subst, arith, inl, inr}
use Rattle.seq_tree.specs.Lists.{Each}
use Rattle.ada_tree.specs.Programs.{Program}
use Rattle.arrivals_tree.specs.Arriving.{Arrivals}
use Rattle.trace_tree.specs.declared.event.Event.{Event}
use Rattle.trace_tree.specs.declared.event.Event.TheVariants as event
use Rattle.machine.specs.Systems.{System, TaskUnit, system}
use Rattle.machine.specs.States.{State, first_task}
use Rattle.machine.specs.Steps.{step}
use Rattle.machine.specs.Meanings.{run, Meaning, start}
use Rattle.machine.proofs.Shared.RunLaws.{stopped_stays}
use Rattle.guarantee.specs.Software.{program_software}
use Rattle.guarantee.specs.Events.{named, named_event}
use Rattle.guarantee.specs.Events as names
use Rattle.guarantee.specs.Order.{IsInOrder}
use Rattle.guarantee.specs.MachineLaw.{NeverStops, tells_stop}
use Rattle.law_written.proofs.Shared.Moves.{threads_of, HasUnit, IsNow, is_stopping}
use Rattle.law_written.proofs.Shared.Units.{IsTask, is_task}
use Rattle.law_written.proofs.Shared.Walks.{IsTimely, Walks, step-walks}
use Rattle.std.proofs.lemmas.Bool.{true≢false, false≢true}

-- events in order, before others
told-in_order : (p : Program) (ths : List TaskUnit) (until now later : ℕ) (es : List Event) (more : List names.Event)
    → ((unit : ℕ) → HasUnit ths unit → IsTask p unit) → now ≤ later → Each (IsNow ths later) es → list_any is_stopping es ≡ false
    → ((n : ℕ) → n ≤ later → IsInOrder (program_software p).tasks until n more)
    → IsInOrder (program_software p).tasks until now (named p es ++ more)
told-in_order p ths until now later [] more tasks early all quiet rest = rest now early
told-in_order p ths until now later (event.Release time task value ∷ es) more tasks early all quiet rest = (
  omega (arith, early, all.0.0),
  tasks task all.0.1,
  refl,
  told-in_order p ths until time later es more tasks (omega
      (arith, all.0.0)) all.1 quiet rest,
)
told-in_order p ths until now later (event.Arrive time task value ∷ es) more tasks early all quiet rest = (
  omega (arith, early, all.0.0),
  tasks task all.0.1,
  refl,
  told-in_order p ths until time later es more tasks (omega
      (arith, all.0.0)) all.1 quiet rest,
)
told-in_order p ths until now later (event.Enter time task unit op values ∷ es) more tasks early all quiet rest = (
  omega (arith, early, all.0.0),
  tasks task all.0.1,
  refl,
  told-in_order p ths until time later es more tasks (omega
      (arith, all.0.0)) all.1 quiet rest,
)
told-in_order p ths until now later (event.Leave time task unit op values ∷ es) more tasks early all quiet rest = (
  omega (arith, early, all.0.0),
  tasks task all.0.1,
  refl,
  told-in_order p ths until time later es more tasks (omega
      (arith, all.0.0)) all.1 quiet rest,
)
told-in_order p ths until now later (event.Request time task target value ∷ es) more tasks early all quiet rest = (
  omega (arith, early, all.0.0),
  tasks task all.0.1,
  refl,
  told-in_order p ths until time later es more tasks (omega
      (arith, all.0.0)) all.1 quiet rest,
)
told-in_order p ths until now later (event.Print time task value ∷ es) more tasks early all quiet rest = (
  omega (arith, early, all.0.0),
  tasks task all.0.1,
  refl,
  told-in_order p ths until time later es more tasks (omega
      (arith, all.0.0)) all.1 quiet rest,
)
told-in_order p ths until now later (event.End time task used ∷ es) more tasks early all quiet rest = (
  omega (arith, early, all.0.0),
  tasks task all.0.1,
  refl,
  told-in_order p ths until time later es more tasks (omega
      (arith, all.0.0)) all.1 quiet rest,
)
told-in_order p ths until now later (event.Stop time task unit priority ceiling ∷ es) more tasks early all quiet rest = absurd (true≢false quiet)
told-in_order p ths until now later (event.Horizon time ∷ es) more tasks early all quiet rest = absurd all.0

-- what is told has no stop, by names and without
pub quiet_names : (p : Program) (es : List Event) → list_any tells_stop (named p es) ≡ list_any is_stopping es
quiet_names p [] = refl
quiet_names p (event.Release time task value ∷ es) = quiet_names p es
quiet_names p (event.Arrive time task value ∷ es) = quiet_names p es
quiet_names p (event.Enter time task unit op values ∷ es) = quiet_names p es
quiet_names p (event.Leave time task unit op values ∷ es) = quiet_names p es
quiet_names p (event.Request time task target value ∷ es) = quiet_names p es
quiet_names p (event.Print time task value ∷ es) = quiet_names p es
quiet_names p (event.End time task used ∷ es) = quiet_names p es
quiet_names p (event.Stop time task unit priority ceiling ∷ es) = refl
quiet_names p (event.Horizon time ∷ es) = quiet_names p es

-- no stop in two parts
pub quiet_front : (es more : List Event) → list_any is_stopping (es ++ more) ≡ false → list_any is_stopping es ≡ false
quiet_front [] more quiet = refl
quiet_front (e ∷ es) more quiet = by (is_stopping e) quiet (quiet_front es more)
  where
    by : (b : Bool) → (b || list_any is_stopping (es ++ more)) ≡ false → (list_any is_stopping (es ++ more) ≡ false → list_any is_stopping es ≡ false)
        → (b || list_any is_stopping es) ≡ false
    by true h later = absurd (true≢false h)
    by false h later = later h

pub quiet_back : (es more : List Event) → list_any is_stopping (es ++ more) ≡ false → list_any is_stopping more ≡ false
quiet_back [] more quiet = quiet
quiet_back (e ∷ es) more quiet = by (is_stopping e) quiet (quiet_back es more)
  where
    by : (b : Bool) → (b || list_any is_stopping (es ++ more)) ≡ false
        → (list_any is_stopping (es ++ more) ≡ false → list_any is_stopping more ≡ false) → list_any is_stopping more ≡ false
    by true h later = absurd (true≢false h)
    by false h later = later h

-- names of events in two parts
pub named-append : (p : Program) (es more : List Event) → named p (es ++ more) ≡ named p es ++ named p more
named-append p [] more = refl
named-append p (e ∷ es) more = ap (λ ns. named_event p e ∷ ns) (named-append p es more)

-- what is told from a state on is in order
order-from : (p : Program) (y : System) (ths : List TaskUnit) (n : ℕ) (s : State) (now : ℕ)
    → ((unit : ℕ) → HasUnit ths unit → IsTask p unit) → threads_of s.tasks ≡ ths → IsTimely y.until s.phase s.time → s.stopped ≡ false → now ≤ s.time
    → (run y n s).0.stopped ≡ true → list_any is_stopping (run y n s).1 ≡ false
    → IsInOrder (program_software p).tasks y.until now (named p (run y n s).1)
order-from p y ths zero s now tasks same timely on early stops quiet = absurd (false≢true (sym on ∙ stops))
order-from p y ths (suc n) s now tasks same timely on early stops quiet = by (step-walks y ths s on timely same)
    (λ k same' timely' on' early'. order-from p y ths n (step y s).0 k tasks same' timely' on' early' stops
    (quiet_back (step y s).1 (run y n (step y s).0).1 quiet))
  where
    by : Walks y ths s (step y s)
        → ((k : ℕ) → threads_of (step y s).0.tasks ≡ ths → IsTimely y.until (step y s).0.phase (step y s).0.time → (step y s).0.stopped ≡ false
        → k ≤ (step y s).0.time
        → IsInOrder (program_software p).tasks y.until k (named p (run y n (step y s).0).1))
        → IsInOrder (program_software p).tasks y.until now (named p ((step y s).1 ++ (run y n (step y s).0).1))
    by (inl f) later =
        let more : List Event = (run y n (step y s).0).1 in
        let P : List names.Event → Type 0 = λ es. IsInOrder (program_software p).tasks y.until now es in
        subst P (sym (named-append p (step y s).1 more))
        (told-in_order p ths y.until now s.time (step y s).1 (named p more) tasks early f.told (quiet_front (step y s).1 more quiet)
        (λ k h. later k f.threads f.timely f.on (omega (arith, h, f.time))))
    by (inr (inl e)) later =
        let none : (run y n (step y s).0).1 ≡ [] = ap (λ next. next.1) (stopped_stays y n (step y s).0 e.stopped) in
        let P : List Event → Type 0 = λ es. IsInOrder (program_software p).tasks y.until now (named p (es ++ (run y n (step y s).0).1)) in
        let Q : List Event → Type 0 = λ es. IsInOrder (program_software p).tasks y.until now (named p (event.Horizon s.time ∷ es)) in
        subst P (sym e.told) (subst Q (sym none) (early, e.now, refl))
    by (inr (inr st)) later = absurd (false≢true (sym (quiet_front (step y s).1 (run y n (step y s).0).1 quiet) ∙ st))

-- the threads at the opening
pub first_threads : (ths : List TaskUnit) → threads_of (map first_task ths) ≡ ths
first_threads [] = refl
first_threads (th ∷ ths) = ap (λ hs. th ∷ hs) (first_threads ths)

-- the order of a run without a stop
pub in_order : (p : Program) (r : Arrivals) (trace : List Event) → Meaning p r trace → NeverStops (named p trace)
    → IsInOrder (program_software p).tasks r.until 0 (named p trace)
in_order p r trace m quiet =
    let y : System = system p r in
    let P : List Event → Type 0 = λ es. IsInOrder (program_software p).tasks r.until 0 (named p es) in
    subst P m.tells (order-from p y y.threads m.steps (start p r) 0 (λ unit has. is_task p r unit has) (first_threads y.threads) (omega arith) refl
    (omega arith) m.stops
    (ap (list_any is_stopping) m.tells ∙ sym (quiet_names p trace) ∙ quiet))
