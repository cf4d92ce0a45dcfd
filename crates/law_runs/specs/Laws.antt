-- What is promised of every run of a program whose tasks stand in a table that fits, and so of every run of a design's program.
-- A run is right where its trace is one that the design allows and every response is within its bound (Audsley et al. 1993).
use Rattle.std.specs.Prelude.{◌≡◌, ◌↔◌, ◌≤◌, ℕ, List, length, Some, slice_get, Ok}
use Rattle.seq_tree.specs.Limits.{ada_limit}
use Rattle.seq_tree.specs.Lists.{Each}
use Rattle.ada_tree.specs.Programs.{Program}
use Rattle.arrivals_tree.specs.Arriving.{Arrivals}
use Rattle.arrivals_tree.specs.Acceptance.{IsAccepted}
use Rattle.trace_tree.specs.declared.event.Event.{Event}
use Rattle.machine.specs.Meanings.{Meaning}
use Rattle.rt_response.specs.declared.rows.ThreadRow.{ThreadRow}
use Rattle.rt_response.specs.declared.rows.Bound.{Bound}
use Rattle.rt_response.specs.Response.{Fits}
use Rattle.seq_tree.specs.Lexis.{tokens, plain}
use Rattle.seq_tree.specs.Proper.{within_limits}
use Rattle.ods_tree.specs.Designs.{Design}
use Rattle.ods_tree.specs.Words.{is_design_name}
use Rattle.ods_tree.specs.Proper.{IsProperDesign}
use Rattle.ods_tree.specs.Ticks.{in_ticks}
use Rattle.ods_tree.specs.Flattening.{flat}
use Rattle.design_rules.specs.Rules.{MeetsRules}
use Rattle.ada_tree.specs.Spelling.{program_tokens}
use Rattle.analysis.specs.Sound.{IsSound, IsSpaced}
use Rattle.analysis.specs.Tables.{table}
use Rattle.guarantee.specs.Software.{program_software}
use Rattle.guarantee.specs.Events.{named}
use Rattle.guarantee.specs.Events as names
use Rattle.guarantee.specs.Requests.{AreTold}
use Rattle.guarantee.specs.Arrivals.{named_arrivals, AreKept, KeepsSeparations}
use Rattle.guarantee.specs.Allowed.{DoesAsWritten, IsPeriodic, IsRequested, Permits, Allows}
use Rattle.guarantee.specs.Bounded.{IsBounded}
use Rattle.guarantee.specs.Guaranteed.{IsRight, Guaranteed}
use Rattle.guarantee.specs.MachineLaw.{NeverStops, IsReadable}
use Rattle.guarantee.specs.Programs.{program, responses}
use Rattle.guarantee.specs.ResponseLaw.{Ranked, ranked, AreTabled, times_of}

-- every run of a program, all of whose tasks stand in a table that fits, is permitted and within its bounds
abbrev pub TabledRunsAreRight : ℕ → Type 0
TabledRunsAreRight limit =
    (p : Program) (ts : List Ranked) (rows : List ThreadRow) (v : List Bound) (r : Arrivals) (trace : List Event)
    → IsReadable p → AreTabled p ts rows → Each (λ u. (i : ℕ) × (slice_get ts i ≡ Some u)) (ranked p) → Fits rows v → IsAccepted limit p r
    → Meaning p r trace
    → Permits (program_software p) (named_arrivals p r) (named p trace) × IsBounded (times_of ts v) r.until (named p trace)

-- a trace of a run, by names, of which tasks stand in a table: it does as written, arrivals are told as they come, and each of these tasks is
-- released on time, has its requests served, and responds within its bound
pub record ServesTable (p : Program) (ts : List Ranked) (v : List Bound) (r : Arrivals) (trace : List names.Event) : Type 0 where
  pub quiet : NeverStops trace
  pub written : DoesAsWritten (program_software p) r.until trace
  pub arrivals : AreTold r.until (named_arrivals p r).items trace
  pub served : Each (λ t. IsPeriodic r.until trace t.task.name t.task.timing × IsRequested trace t.task.name t.task.timing) ts
  pub bounded : IsBounded (times_of ts v) r.until trace

-- every run of a program, some of whose tasks stand in a table that fits, serves these tasks, whatever the others do
abbrev pub TabledTasksAreServed : ℕ → Type 0
TabledTasksAreServed limit =
    (p : Program) (ts : List Ranked) (rows : List ThreadRow) (v : List Bound) (r : Arrivals) (trace : List Event)
    → IsReadable p → AreTabled p ts rows → Fits rows v → IsAccepted limit p r → Meaning p r trace → ServesTable p ts v r (named p trace)

-- arrivals are accepted for a program exactly where they keep the separations of its software
abbrev pub AcceptedWhereKept : ℕ → Type 0
AcceptedWhereKept limit = (p : Program) (r : Arrivals) → IsReadable p → IsAccepted limit p r ↔ AreKept limit (program_software p) (named_arrivals p r)

-- every run of the program of a design whose flat design is sound and spaced is right
abbrev pub SoundDesignsAreRight : ℕ → Type 0
SoundDesignsAreRight limit =
    (x : Design) (v : List Bound) → IsSound (flat x) → IsSpaced (flat x) → IsReadable (program x) → Fits (table (flat x)).rows v
    → (r : Arrivals) → KeepsSeparations limit x (named_arrivals (program x) r) → IsRight x v (program x) r

-- every run of the program of a design is right, where the design is proper and meets the rules, and bounds fit its table
abbrev pub DesignsAreRight : ℕ → Type 0
DesignsAreRight limit =
    (x : Design) (v : List Bound) → IsProperDesign (within_limits is_design_name) x → MeetsRules x → Fits (table (flat (in_ticks x))).rows v
    → (r : Arrivals) → KeepsSeparations limit (in_ticks x) (named_arrivals (program (in_ticks x)) r) → IsRight (in_ticks x) v (program (in_ticks x)) r

-- a text with the tokens of such a program is guaranteed for the design and those bounds
abbrev pub TextsAreGuaranteed : ℕ → Type 0
TextsAreGuaranteed limit =
    (x : Design) (text : List ℕ) (v : List Bound) → IsProperDesign (within_limits is_design_name) x → MeetsRules x
    → Fits (table (flat (in_ticks x))).rows v
    → length text ≤ ada_limit → plain (tokens text) ≡ Ok (program_tokens (program (in_ticks x))) → Guaranteed limit (in_ticks x) text v

-- what is told of such a program under accepted arrivals is allowed by the design and within the bounds
abbrev pub ReplaysAreRight : ℕ → Type 0
ReplaysAreRight limit =
    (x : Design) (v : List Bound) (r : Arrivals) (told : List Event) → IsProperDesign (within_limits is_design_name) x → MeetsRules x
    → Fits (table (flat (in_ticks x))).rows v
    → IsAccepted limit (program (in_ticks x)) r → Meaning (program (in_ticks x)) r told
    → Allows (in_ticks x) (named_arrivals (program (in_ticks x)) r) (named (program (in_ticks x)) told)
    × IsBounded (responses (flat (in_ticks x)) v) r.until (named (program (in_ticks x)) told)
