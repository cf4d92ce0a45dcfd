-- Every run of a program whose tasks all stand in a table that fits is permitted by the program's texts and within its bounds, where the
-- processor responds.
use Rattle.std.specs.Prelude.{◌≡◌, ℕ, true, List, Some, slice_get}
use Rattle.std.proofs.Common.{subst}
use Rattle.seq_tree.specs.Lists.{Each}
use Rattle.seq_tree.specs.Names.{same_name}
use Rattle.ada_tree.specs.Programs.{Program}
use Rattle.arrivals_tree.specs.Arriving as places
use Rattle.arrivals_tree.specs.Acceptance.{IsAccepted}
use Rattle.trace_tree.specs.declared.event.Event as machine
use Rattle.machine.specs.Meanings.{Meaning}
use Rattle.analysis.specs.Starts.{can_request}
use Rattle.rt_response.specs.declared.rows.ThreadRow.{ThreadRow}
use Rattle.rt_response.specs.declared.rows.Bound.{Bound}
use Rattle.rt_response.specs.Response.{Fits}
use Rattle.guarantee.specs.Software.{program_software, Task}
use Rattle.guarantee.specs.Events.{named}
use Rattle.guarantee.specs.Arrivals.{named_arrivals}
use Rattle.guarantee.specs.Bounded.{IsBounded}
use Rattle.guarantee.specs.Allowed.{Permits}
use Rattle.guarantee.specs.MachineLaw.{IsReadable}
use Rattle.guarantee.specs.ResponseLaw.{Ranked, ranked, program_services, AreTabled, times_of, ProcessorResponds}
use Rattle.law_releases.proofs.Shared.StarterLaw.{starters_ask_once}
use Rattle.law_runs.proofs.KeptSoftware.{kept_software}
use Rattle.law_runs.specs.Laws.{TabledTasksAreServed}
use Rattle.law_runs.proofs.Joined.{ranked_tasks, Starts, tabled_runs, served_tasks, ranked_at}
use Rattle.law_lists.proofs.Shared.Places.{all-at}
use Rattle.law_lists.proofs.Shared.Lists.{each-map}

-- requests inside a program are asked once
pub program_starts : (limit : ℕ) (p : Program) (ts : List Ranked) (rows : List ThreadRow) (r : places.Arrivals) (trace : List machine.Event)
    → IsReadable p → AreTabled p ts rows → IsAccepted limit p r → Meaning p r trace
    → Starts p ts (named p trace)
program_starts limit p ts rows r trace readable tabled accepted m t k row op separation e here timing =
    let E : List Task → Type 0 = λ us. Each (λ u. can_request (program_services p) t.task.name u.block ≡ true
    → same_name u.name e.starter.task.name ≡ true) us in
    let place = all-at _ ts e.place e.starter tabled.tasks e.stands in
    starters_ask_once limit p r trace t.task e.starter.task op separation readable.1 accepted m (k, ranked_at p k t here)
    (place.0, ranked_at p place.0 e.starter place.1) timing
    (subst E (ranked_tasks p.units) (each-map (λ u. u.task) (λ u. can_request (program_services p) t.task.name u.block ≡ true
    → same_name u.name e.starter.task.name ≡ true) (ranked p) e.alone)) e.once

-- every run is permitted and within its bounds
pub bounded_runs : (limit : ℕ) → ProcessorResponds limit
    → (p : Program) (ts : List Ranked) (rows : List ThreadRow) (v : List Bound) (r : places.Arrivals) (trace : List machine.Event)
    → IsReadable p → AreTabled p ts rows → Each (λ u. (i : ℕ) × (slice_get ts i ≡ Some u)) (ranked p) → Fits rows v → IsAccepted limit p r
    → Meaning p r trace
    → Permits (program_software p) (named_arrivals p r) (named p trace) × IsBounded (times_of ts v) r.until (named p trace)
bounded_runs limit law p ts rows v r trace readable tabled all fits accepted m =
    tabled_runs limit law p ts rows v r trace readable tabled all fits accepted (kept_software limit p r readable.1 accepted) m
    (program_starts limit p ts rows r trace readable tabled accepted m)

-- every run serves the tasks that stand in the table
pub tabled_served : (limit : ℕ) → ProcessorResponds limit → TabledTasksAreServed limit
tabled_served limit law p ts rows v r trace readable tabled fits accepted m =
    served_tasks limit law p ts rows v r trace readable tabled fits accepted (kept_software limit p r readable.1 accepted) m
    (program_starts limit p ts rows r trace readable tabled accepted m)
