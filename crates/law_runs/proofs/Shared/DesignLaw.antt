-- Every run of the program of a proper design that meets the rules and has bounds is right, and a text with that program's tokens is guaranteed:
-- deadline-monotonic priorities are a ranking.
use Rattle.std.specs.Prelude.{◌≡◌, ◌≤◌, ℕ, List, length, Ok}
use Rattle.seq_tree.specs.Limits.{ada_limit}
use Rattle.seq_tree.specs.Lexis.{tokens, plain}
use Rattle.seq_tree.specs.Proper.{within_limits}
use Rattle.ods_tree.specs.Designs.{Design}
use Rattle.ods_tree.specs.Words.{is_design_name}
use Rattle.ods_tree.specs.Proper.{IsProperDesign}
use Rattle.ods_tree.specs.Ticks.{in_ticks}
use Rattle.ods_tree.specs.Flattening.{flat}
use Rattle.design_rules.specs.Rules.{MeetsRules}
use Rattle.ada_tree.specs.Spelling.{program_tokens}
use Rattle.analysis.specs.Priorities.{priorities_of}
use Rattle.analysis.specs.Tables.{table}
use Rattle.arrivals_tree.specs.Arriving.{Arrivals}
use Rattle.arrivals_tree.specs.Acceptance.{IsAccepted}
use Rattle.trace_tree.specs.declared.event.Event.{Event}
use Rattle.machine.specs.Meanings.{Meaning}
use Rattle.rt_response.specs.declared.rows.Bound.{Bound}
use Rattle.rt_response.specs.Response.{Fits}
use Rattle.guarantee.specs.Events.{named}
use Rattle.guarantee.specs.Arrivals.{named_arrivals, KeepsSeparations}
use Rattle.guarantee.specs.Allowed.{Allows}
use Rattle.guarantee.specs.Bounded.{IsBounded}
use Rattle.guarantee.specs.Guaranteed.{IsRight, Guaranteed}
use Rattle.guarantee.specs.Programs.{program, responses}
use Rattle.law_designs.proofs.Shared.PriorityPlaces.{deadline-ranking}
use Rattle.law_runs.specs.Ranked.{GuaranteedBy}
use Rattle.law_runs.proofs.DesignRuns.{right-by-deadlines}
use Rattle.law_runs.proofs.Shared.RankedRuns.{ranked-designs-are-right, ranked-texts-are-guaranteed, ranked-replays-are-right}

pub designs-are-right : (limit : ℕ) (x : Design) (v : List Bound) → IsProperDesign (within_limits is_design_name) x → MeetsRules x
    → Fits (table (flat (in_ticks x))).rows v
    → (r : Arrivals) → KeepsSeparations limit (in_ticks x) (named_arrivals (program (in_ticks x)) r) → IsRight (in_ticks x) v (program (in_ticks x)) r
designs-are-right limit x v proper meets fits r keeps =
    let f = flat (in_ticks x) in
    right-by-deadlines (in_ticks x) v (program (in_ticks x)) r
    (ranked-designs-are-right limit x (priorities_of f) v proper meets (deadline-ranking f) fits r keeps)

-- what is guaranteed by deadline-monotonic priorities is guaranteed
pub guaranteed-by-deadlines : (limit : ℕ) (x : Design) (text : List ℕ) (v : List Bound) → GuaranteedBy limit x (priorities_of (flat x)) text v
    → Guaranteed limit x text v
guaranteed-by-deadlines limit x text v g = record {
  program = g.program;
  reads = g.reads;
  tasks = g.tasks;
  external = g.external;
  runs = λ r keeps. right-by-deadlines x v g.program r (g.runs r keeps);
}

pub texts-are-guaranteed : (limit : ℕ) (x : Design) (text : List ℕ) (v : List Bound) → IsProperDesign (within_limits is_design_name) x → MeetsRules x
    → Fits (table (flat (in_ticks x))).rows v
    → length text ≤ ada_limit → plain (tokens text) ≡ Ok (program_tokens (program (in_ticks x))) → Guaranteed limit (in_ticks x) text v
texts-are-guaranteed limit x text v proper meets fits within spelled =
    let f = flat (in_ticks x) in
    guaranteed-by-deadlines limit (in_ticks x) text v
    (ranked-texts-are-guaranteed limit x (priorities_of f) text v proper meets (deadline-ranking f) fits within spelled)

-- what is told under accepted arrivals
pub replays-are-right : (limit : ℕ) (x : Design) (v : List Bound) (r : Arrivals) (told : List Event) → IsProperDesign (within_limits is_design_name) x
    → MeetsRules x → Fits (table (flat (in_ticks x))).rows v
    → IsAccepted limit (program (in_ticks x)) r → Meaning (program (in_ticks x)) r told
    → Allows (in_ticks x) (named_arrivals (program (in_ticks x)) r) (named (program (in_ticks x)) told)
    × IsBounded (responses (flat (in_ticks x)) v) r.until (named (program (in_ticks x)) told)
replays-are-right limit x v r told proper meets fits accepted means =
    let f = flat (in_ticks x) in
    ranked-replays-are-right limit x (priorities_of f) v r told proper meets (deadline-ranking f) fits accepted means
