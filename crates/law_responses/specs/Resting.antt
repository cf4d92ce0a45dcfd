-- Levels that rest, in the trace of a run: a time by which each activation of a thread that was released before has ended.
-- The time up to it is within a busy period of the level (Lehoczky 1990), which is as long as a response time at most.
use Rattle.std.specs.Prelude.{◌≡◌, ℕ, ◌+◌, ◌≤◌, ◌<◌, List, [], ◌∷◌, Some, slice_get, ⊤}
use Rattle.seq_tree.specs.Names.{Name, same_name}
use Rattle.ada_tree.specs.Programs.{Program}
use Rattle.arrivals_tree.specs.Arriving.{Arrivals}
use Rattle.arrivals_tree.specs.Acceptance.{IsAccepted}
use Rattle.machine.specs.Meanings.{Meaning}
use Rattle.trace_tree.specs.declared.event.Event as machine
use Rattle.rt_response.specs.declared.rows.ThreadRow.{ThreadRow}
use Rattle.rt_response.specs.declared.rows.Bound.{Bound}
use Rattle.rt_response.specs.Response.{Fits}
use Rattle.guarantee.specs.Events.{Release, Event, By, named}
use Rattle.guarantee.specs.Bounded.{Response, Either, EndsBy}
use Rattle.guarantee.specs.MachineLaw.{IsReadable}
use Rattle.guarantee.specs.ResponseLaw.{Ranked, AreTabled, times_of}

-- each release of a thread before this time has its end by then
abbrev pub RestsBy : ℕ → List Event → Name → Type 0
RestsBy time [] thread = ⊤
RestsBy time (By at task (Release value) ∷ told) thread = Either (same_name task thread) (at < time → EndsBy thread time told) ⊤ × RestsBy time told thread
RestsBy time (_ ∷ told) thread = RestsBy time told thread

-- in every run of a program whose table fits, after any time the task of a row and those of higher priority rest within the row's response time
abbrev pub LevelsOfTasksRest : ℕ → Type 0
LevelsOfTasksRest limit =
    (p : Program) (ts : List Ranked) (rows : List ThreadRow) (v : List Bound) (r : Arrivals) (trace : List machine.Event) (i : ℕ) (q : Response)
    (from : ℕ)
    → IsReadable p → AreTabled p ts rows → Fits rows v → IsAccepted limit p r → Meaning p r trace
    → slice_get (times_of ts v) i ≡ Some q → from + q.ticks ≤ r.until
    → (time : ℕ) × (from < time) × (time ≤ from + q.ticks)
    × ((k : ℕ) (t : Ranked) → k ≤ i → slice_get ts k ≡ Some t → RestsBy time (named p trace) t.task.name)
