-- What is promised of requests and of chains of requests, in every run of a program whose tasks stand in a table that fits, and so of a design's.
-- A request is served at once, and what a chain takes is at most the sum of its response times (Tindell and Clark 1994).
use Rattle.std.specs.Prelude.{◌≡◌, ℕ, Bool, true, false, List, ◌∷◌, map, Some, slice_get}
use Rattle.seq_tree.specs.Lists.{Each}
use Rattle.seq_tree.specs.Names.{Name}
use Rattle.seq_tree.specs.Proper.{within_limits}
use Rattle.ods_tree.specs.Designs.{Design}
use Rattle.ods_tree.specs.Flats.{Timing, Cyclic, Sporadic}
use Rattle.ods_tree.specs.Flattening.{flat}
use Rattle.ods_tree.specs.Proper.{IsProperDesign}
use Rattle.ods_tree.specs.Ticks.{in_ticks}
use Rattle.ods_tree.specs.Words.{is_design_name}
use Rattle.design_rules.specs.Rules.{MeetsRules}
use Rattle.ada_tree.specs.Programs.{Program}
use Rattle.arrivals_tree.specs.Arriving.{Arrivals}
use Rattle.arrivals_tree.specs.Acceptance.{IsAccepted}
use Rattle.trace_tree.specs.declared.event.Event.{Event}
use Rattle.machine.specs.Meanings.{Meaning}
use Rattle.rt_response.specs.declared.rows.ThreadRow.{ThreadRow}
use Rattle.rt_response.specs.declared.rows.Bound.{Bound}
use Rattle.rt_response.specs.Response.{Fits}
use Rattle.analysis.specs.Tables.{table}
use Rattle.guarantee.specs.Software.{Task, software}
use Rattle.guarantee.specs.Events.{named}
use Rattle.guarantee.specs.Bounded.{Response}
use Rattle.guarantee.specs.MachineLaw.{IsReadable}
use Rattle.guarantee.specs.Programs.{program, responses}
use Rattle.guarantee.specs.ResponseLaw.{Ranked, AreTabled, times_of}
use Rattle.law_chains.specs.AtOnce.{IsServedAtOnce}
use Rattle.law_chains.specs.Chains.{ChainResponds, total}

-- whether a thread is requested
abbrev pub is_sporadic : Timing → Bool
is_sporadic (Cyclic period offset) = false
is_sporadic (Sporadic op separation jitter) = true

-- a name of a sporadic task among these
abbrev pub HasSporadic : List Task → Name → Type 0
HasSporadic ts name = (k : ℕ) × (t : Task) × (slice_get ts k ≡ Some t) × (t.name ≡ name) × (is_sporadic t.timing ≡ true)

-- the requests of every sporadic task of a program that stands in a table that fits are served at once
abbrev pub TabledTasksAreServedAtOnce : ℕ → Type 0
TabledTasksAreServedAtOnce limit =
    (p : Program) (ts : List Ranked) (rows : List ThreadRow) (v : List Bound) (r : Arrivals) (trace : List Event)
    → IsReadable p → AreTabled p ts rows → Fits rows v → IsAccepted limit p r → Meaning p r trace
    → Each (λ t. IsServedAtOnce (named p trace) t.task.name t.task.timing) ts

-- every chain of such tasks, all but the first of them sporadic, responds within their response times together
abbrev pub TabledChainsRespond : ℕ → Type 0
TabledChainsRespond limit =
    (p : Program) (ts : List Ranked) (rows : List ThreadRow) (v : List Bound) (r : Arrivals) (trace : List Event) (first : Response)
    (more : List Response)
    → IsReadable p → AreTabled p ts rows → Fits rows v → IsAccepted limit p r → Meaning p r trace
    → Each (λ q. (k : ℕ) × (slice_get (times_of ts v) k ≡ Some q)) (first ∷ more)
    → Each (λ q. HasSporadic (map (λ t. t.task) ts) q.thread) more
    → ChainResponds r.until (named p trace) (total (first ∷ more)) first.thread (map (λ q. q.thread) more)

-- in every run of the program of a design that meets the rules and has bounds each request is served at once
abbrev pub DesignsServeAtOnce : ℕ → Type 0
DesignsServeAtOnce limit =
    (x : Design) (v : List Bound) (r : Arrivals) (told : List Event) → IsProperDesign (within_limits is_design_name) x → MeetsRules x
    → Fits (table (flat (in_ticks x))).rows v
    → IsAccepted limit (program (in_ticks x)) r → Meaning (program (in_ticks x)) r told
    → Each (λ t. IsServedAtOnce (named (program (in_ticks x)) told) t.name t.timing) (software (in_ticks x)).tasks

-- and every chain of its threads, all but the first of them sporadic, responds within their response times together
abbrev pub DesignChainsRespond : ℕ → Type 0
DesignChainsRespond limit =
    (x : Design) (v : List Bound) (r : Arrivals) (told : List Event) (first : Response) (more : List Response)
    → IsProperDesign (within_limits is_design_name) x → MeetsRules x → Fits (table (flat (in_ticks x))).rows v
    → IsAccepted limit (program (in_ticks x)) r → Meaning (program (in_ticks x)) r told
    → Each (λ q. (k : ℕ) × (slice_get (responses (flat (in_ticks x)) v) k ≡ Some q)) (first ∷ more)
    → Each (λ q. HasSporadic (software (in_ticks x)).tasks q.thread) more
    → ChainResponds r.until (named (program (in_ticks x)) told) (total (first ∷ more)) first.thread (map (λ q. q.thread) more)
