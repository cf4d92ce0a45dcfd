-- A chain of requests takes at most the response time of its thread of lowest priority, since its activations lie in one busy period of that level.
-- Busy periods of a level are those of Lehoczky 1990; chains and their sums are those of Tindell and Clark 1994.
use Rattle.std.specs.Prelude.{◌≡◌, ℕ, ◌+◌, ◌≤◌, ◌<◌, List, ◌∷◌, map, Some, None, slice_get}
use Rattle.seq_tree.specs.Lists.{Each}
use Rattle.seq_tree.specs.Names.{Name}
use Rattle.ada_tree.specs.Programs.{Program}
use Rattle.arrivals_tree.specs.Arriving.{Arrivals}
use Rattle.arrivals_tree.specs.Acceptance.{IsAccepted}
use Rattle.machine.specs.Meanings.{Meaning}
use Rattle.trace_tree.specs.declared.event.Event as machine
use Rattle.rt_response.specs.declared.rows.ThreadRow.{ThreadRow}
use Rattle.rt_response.specs.declared.rows.Bound.{Bound}
use Rattle.rt_response.specs.Response.{Fits}
use Rattle.guarantee.specs.Bounded.{Response}
use Rattle.guarantee.specs.Events.{Event, named}
use Rattle.guarantee.specs.MachineLaw.{IsReadable}
use Rattle.guarantee.specs.Requests.{notices}
use Rattle.guarantee.specs.ResponseLaw.{Ranked, AreTabled, times_of}
use Rattle.law_chains.specs.AtOnce.{AreServedAtOnce}
use Rattle.law_chains.specs.Chains.{ChainResponds}
use Rattle.law_responses.specs.Resting.{RestsBy}
use Rattle.law_runs.specs.Chains.{HasSporadic}
use Rattle.law_chain_bounds.specs.Requests.{RequestsComeBeforeEnds}

-- from each time that leaves so many ticks before the horizon on, these threads all rest within so many ticks
abbrev pub RestWithin : ℕ → List Event → ℕ → List Name → Type 0
RestWithin until told ticks threads =
    (from : ℕ) → from + ticks ≤ until → (time : ℕ) × (from < time) × (time ≤ from + ticks) × Each (RestsBy time told) threads

-- a chain of threads that all rest within so many ticks, all but the first of them served at once, takes no longer
abbrev pub ChainsOfLevelsRespond : Type 0
ChainsOfLevelsRespond =
    (until ticks : ℕ) (told : List Event) (first : Name) (more : List Name) → RestWithin until told ticks (first ∷ more)
    → RequestsComeBeforeEnds told → Each (λ n. AreServedAtOnce None (notices n told)) more → ChainResponds until told ticks first more

-- in every run of a program, a chain of tasks of a table that fits takes at most the response time of the lowest of their rows, or of one below
abbrev pub TabledChainsKeepToLevels : ℕ → Type 0
TabledChainsKeepToLevels limit =
    (p : Program) (ts : List Ranked) (rows : List ThreadRow) (v : List Bound) (r : Arrivals) (trace : List machine.Event) (i : ℕ)
    (lowest first : Response) (more : List Response)
    → IsReadable p → AreTabled p ts rows → Fits rows v → IsAccepted limit p r → Meaning p r trace
    → slice_get (times_of ts v) i ≡ Some lowest
    → Each (λ q. (k : ℕ) × (k ≤ i) × (slice_get (times_of ts v) k ≡ Some q)) (first ∷ more)
    → Each (λ q. HasSporadic (map (λ t. t.task) ts) q.thread) more
    → ChainResponds r.until (named p trace) lowest.ticks first.thread (map (λ q. q.thread) more)
