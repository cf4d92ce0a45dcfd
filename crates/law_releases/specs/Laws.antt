-- The laws of releases and requests: what every run of a program tells of them, and how requests follow each other in time.
-- Release jitter and its inheritance are those of Tindell, Burns and Wellings 1994, and of Tindell and Clark 1994.
use Rattle.std.specs.Prelude.{◌≡◌, ℕ, ◌+◌, ◌≤◌, true, false, List, Some, None, slice_get, ⊤}
use Rattle.seq_tree.specs.Lists.{Each}
use Rattle.seq_tree.specs.Names.{Name, same_name}
use Rattle.seq_tree.specs.Operations.{Signature}
use Rattle.ods_tree.specs.Flats.{Timing, Cyclic, Sporadic}
use Rattle.analysis.specs.Starts.{can_request, block_starts}
use Rattle.ada_tree.specs.Programs.{Program}
use Rattle.ada_tree.specs.Rules.{MeetsRules}
use Rattle.arrivals_tree.specs.Arriving as places
use Rattle.arrivals_tree.specs.Acceptance.{IsAccepted}
use Rattle.trace_tree.specs.declared.event.Event as machine
use Rattle.machine.specs.Meanings.{Meaning}
use Rattle.guarantee.specs.Software.{Task, program_software}
use Rattle.guarantee.specs.Events.{Event, named}
use Rattle.guarantee.specs.Arrivals.{KeepTime, named_arrivals}
use Rattle.guarantee.specs.Order.{IsInOrder}
use Rattle.guarantee.specs.Requests.{notices, AreTold}
use Rattle.guarantee.specs.Bounded.{Responds}
use Rattle.guarantee.specs.Allowed.{IsPeriodic, IsRequested, Permits}
use Rattle.guarantee.specs.MachineLaw.{NeverStops, IsReadable}
use Rattle.guarantee.specs.ResponseLaw.{program_services}
use Rattle.law_releases.specs.Serving.{ServedWhile, NeverOverruns, IsServedWhile, HasNoOverrun, asked, taken}
use Rattle.law_releases.specs.Starting.{AsksOnce}

-- a task of a program
abbrev pub IsTask : Program → Task → Type 0
IsTask p t = (k : ℕ) × (slice_get (program_software p).tasks k ≡ Some t)

-- the requests of every sporadic task are served in order and each once, up to the first that comes while another is pending
abbrev pub RequestsAreServed : ℕ → Type 0
RequestsAreServed limit =
    (p : Program) (r : places.Arrivals) (trace : List machine.Event) → MeetsRules p → IsAccepted limit p r → Meaning p r trace
    → Each (λ t. IsServedWhile (named p trace) t.name t.timing) (program_software p).tasks

-- so all requests of a task are served, where none of them comes while another is pending
abbrev pub AllRequestsAreServed : ℕ → Type 0
AllRequestsAreServed limit =
    (p : Program) (r : places.Arrivals) (trace : List machine.Event) → MeetsRules p → IsAccepted limit p r → Meaning p r trace
    → Each (λ t. HasNoOverrun (named p trace) t.name t.timing → IsRequested (named p trace) t.name t.timing) (program_software p).tasks

-- one task alone can request another that takes no requests from outside, once on each way through its block at most:
-- then it does so once in each of its activations at most
abbrev pub StartersAskOnce : ℕ → Type 0
StartersAskOnce limit =
    (p : Program) (r : places.Arrivals) (trace : List machine.Event) (t s : Task) (op : Signature) (separation : ℕ)
    → MeetsRules p → IsAccepted limit p r → Meaning p r trace → IsTask p t → IsTask p s → t.timing ≡ Sporadic op separation None
    → Each (λ u. can_request (program_services p) t.name u.block ≡ true → same_name u.name s.name ≡ true) (program_software p).tasks
    → block_starts (program_services p) (record { object = t.name; op = op.name }) s.block ≤ 1
    → AsksOnce s.name t.name false (named p trace)

-- a task whose activations end within its period, if it is cyclic
abbrev pub EndsWithinPeriod : ℕ → List Event → Name → Timing → Type 0
EndsWithinPeriod until trace name (Cyclic period offset) = (ticks : ℕ) × (ticks ≤ period)
    × Responds until trace (record { thread = name; ticks = ticks })
EndsWithinPeriod until trace name (Sporadic op separation jitter) = ⊤

-- every cyclic task whose activations end within its period is released at its offset and at each period after it
abbrev pub CyclicTasksAreOnTime : ℕ → Type 0
CyclicTasksAreOnTime limit =
    (p : Program) (r : places.Arrivals) (trace : List machine.Event) → MeetsRules p → IsAccepted limit p r → Meaning p r trace
    → NeverStops (named p trace)
    → Each (λ t. EndsWithinPeriod r.until (named p trace) t.name t.timing
    → IsPeriodic r.until (named p trace) t.name t.timing) (program_software p).tasks

-- requests from outside are told as they arrive, in order, up to the horizon
abbrev pub ArrivalsAreTold : ℕ → Type 0
ArrivalsAreTold limit =
    (p : Program) (r : places.Arrivals) (trace : List machine.Event) → IsAccepted limit p r → Meaning p r trace → NeverStops (named p trace)
    → AreTold r.until (named_arrivals p r).items (named p trace)

-- every run without a stop, in which cyclic tasks end within their periods and no request comes while another is pending, is one that the
-- program's texts permit
abbrev pub RunsArePermitted : ℕ → Type 0
RunsArePermitted limit =
    (p : Program) (r : places.Arrivals) (trace : List machine.Event) → IsReadable p → IsAccepted limit p r → Meaning p r trace
    → NeverStops (named p trace)
    → Each (λ t. EndsWithinPeriod r.until (named p trace) t.name t.timing) (program_software p).tasks
    → Each (λ t. HasNoOverrun (named p trace) t.name t.timing) (program_software p).tasks
    → Permits (program_software p) (named_arrivals p r) (named p trace)

-- a thread whose response time and jitter together are at most the separation that its requests keep has no overrun, and its releases
-- keep that separation with that jitter
abbrev pub SeparateRequestsDontOverrun : Type 0
SeparateRequestsDontOverrun =
    (ts : List Task) (told : List Event) (until ticks separation jitter : ℕ) (name : Name) → IsInOrder ts until 0 told
    → 1 ≤ ticks → ticks + jitter ≤ separation → Responds until told (record { thread = name; ticks = ticks })
    → KeepTime separation jitter 0 (asked (notices name told)) → ServedWhile None (Some 0) (notices name told)
    → NeverOverruns false (notices name told) × KeepTime separation jitter 0 (taken (notices name told))

-- a starter that requests a thread once in each activation at most hands on its jitter and its response time together as release jitter
abbrev pub StartersHandOnJitter : Type 0
StartersHandOnJitter =
    (ts : List Task) (told : List Event) (until period jitter ticks separation : ℕ) (starter name : Name) → IsInOrder ts until 0 told
    → separation ≤ period → Responds until told (record { thread = starter; ticks = ticks }) → KeepTime period jitter 0 (taken (notices starter told))
    → AsksOnce starter name false told → KeepTime separation (jitter + ticks) 0 (asked (notices name told))
