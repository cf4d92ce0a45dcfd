-- In every run of a program whose table fits, after any time each level rests within its response time.
use Rattle.std.specs.Prelude.{◌≡◌, ℕ, zero, suc, ◌+◌, ◌≤◌, ◌<◌, List, [], ◌∷◌, Some, slice_get, refl}
use Rattle.std.proofs.Common.{sym, ap, subst, arith}
use Rattle.std.proofs.lemmas.Option.{same_Some}
use Rattle.ada_tree.specs.Programs.{Program}
use Rattle.ada_tree.specs.Rules.{MeetsRules}
use Rattle.arrivals_tree.specs.Arriving.{Arrivals}
use Rattle.arrivals_tree.specs.Acceptance.{IsAccepted}
use Rattle.machine.specs.Meanings.{Meaning}
use Rattle.trace_tree.specs.declared.event.Event as machine
use Rattle.rt_response.specs.declared.rows.ThreadRow.{ThreadRow}
use Rattle.rt_response.specs.declared.rows.Bound.{Bound}
use Rattle.rt_response.specs.Response.{Fits}
use Rattle.guarantee.specs.Events.{named}
use Rattle.guarantee.specs.Bounded.{Response}
use Rattle.guarantee.specs.ResponseLaw.{Ranked, AreTabled, IsStarted, times_of}
use Rattle.law_lists.proofs.Shared.Lists.{zip-first}
use Rattle.law_responses.specs.Resting.{RestsBy, LevelsOfTasksRest}
use Rattle.law_responses.proofs.Resting.{rests-named}
use Rattle.law_responses.proofs.SystemLaw.{AllRest, system-rests, Leaves, run-leaves}
use Rattle.law_responses.proofs.Tabling.{frame, has-row, place-of}
use Rattle.law_responses.proofs.TwinTasks.{thread-of}
use Rattle.law_responses.proofs.Shared.ProgramLaw.{responsive, task-names}

-- a response time is that of a task and a bound at its place
time-at : (ts : List Ranked) (v : List Bound) (i : ℕ) (q : Response) → slice_get (times_of ts v) i ≡ Some q
    → (u : Ranked) × (b : Bound) × (slice_get ts i ≡ Some u) × (slice_get v i ≡ Some b) × (b.response ≡ q.ticks)
time-at [] v i q e = cc
time-at (t ∷ ts) [] i q e = cc
time-at (t ∷ ts) (b ∷ v) zero q e =
    let is : record { thread = t.task.name; ticks = b.response } ≡ q = same_Some (record { thread = t.task.name; ticks = b.response }) q e in
    (t, b, refl, refl, ap (λ z. z.ticks) is)
time-at (t ∷ ts) (b ∷ v) (suc i) q e = time-at ts v i q e

module _ (p : Program) (a : Arrivals) (rules : MeetsRules p) (ts : List Ranked) (rows : List ThreadRow) (tabled : AreTabled p ts rows) (limit : ℕ)
    (accepted : IsAccepted limit p a) (v : List Bound) (fit : Fits rows v) (trace : List machine.Event) (meaning : Meaning p a trace) where
  leaves : Leaves (frame p ts rows a) v trace
  leaves = run-leaves (frame p ts rows a) v a.items trace (responsive p a rules ts rows tabled limit accepted v fit) meaning

  rests : AllRest (frame p ts rows a) v trace
  rests = system-rests (frame p ts rows a) v a.items trace (responsive p a rules ts rows tabled limit accepted v fit) meaning

  -- the tasks of a level rest by a time
  level-rests : (i : ℕ) (u : Ranked) (b : Bound) (from : ℕ) → slice_get ts i ≡ Some u → slice_get v i ≡ Some b → from + b.response ≤ a.until
      → (time : ℕ) × (from < time) × (time ≤ from + b.response)
      × ((k : ℕ) (t : Ranked) → k ≤ i → slice_get ts k ≡ Some t → RestsBy time (named p trace) t.task.name)
  level-rests i u b from at gets near =
      let line = zip-first (λ x row. IsStarted p ts row x.task.name x.task.timing) ts rows i u tabled.started at in
      let found = rests i line.0 b from line.1 gets near in (
        found.0,
        found.1,
        found.2,
        λ k t low here.
            let place = place-of p a rules ts rows tabled k t here in
            let th = thread-of p a place.0 t place.1 in
            subst (λ n. RestsBy found.0 (named p trace) n) (sym (th.2).name)
            (rests-named (frame p ts rows a) p th.0.name th.0.unit found.0 trace (task-names p a rules ts rows place.0 th.0 th.1) leaves.units
            (found.3 place.0 k th.0 low (has-row p a rules ts rows tabled place.0 k t place.1 here) th.1)),
      )

pub levels-of-tasks-rest : (limit : ℕ) → LevelsOfTasksRest limit
levels-of-tasks-rest limit p ts rows v r trace i q from readable tabled fit accepted meaning at near =
    let h = time-at ts v i q at in
    let now = level-rests p r readable.1 ts rows tabled limit accepted v fit trace meaning i h.0 h.1 from h.2 h.3 (omega (arith, near, h.4)) in
    (now.0, now.1, omega (arith, now.2, h.4), now.3)
