-- What is promised of every run of a design's program by any ranking of its threads, and so of a text of that program.
-- A ranking is any priorities, each given once; ceilings, blocking and bounds follow from them (Audsley 1991).
use Rattle.std.specs.Prelude.{◌≡◌, ◌≤◌, ℕ, List, map, length, Ok}
use Rattle.seq_tree.specs.Limits.{ada_limit}
use Rattle.seq_tree.specs.Lexis.{tokens, plain}
use Rattle.seq_tree.specs.Proper.{within_limits}
use Rattle.ods_tree.specs.Designs.{Design}
use Rattle.ods_tree.specs.Flattening.{flat}
use Rattle.ods_tree.specs.Proper.{IsProperDesign}
use Rattle.ods_tree.specs.Ticks.{in_ticks}
use Rattle.ods_tree.specs.Words.{is_design_name}
use Rattle.design_rules.specs.Rules.{MeetsRules}
use Rattle.ada_tree.specs.Programs.{Program}
use Rattle.ada_tree.specs.Reading.{Accepts}
use Rattle.ada_tree.specs.Spelling.{program_tokens}
use Rattle.arrivals_tree.specs.Arriving.{Arrivals}
use Rattle.arrivals_tree.specs.Acceptance.{IsAccepted}
use Rattle.trace_tree.specs.declared.event.Event.{Event}
use Rattle.machine.specs.Meanings.{Meaning}
use Rattle.rt_response.specs.declared.rows.Bound.{Bound}
use Rattle.rt_response.specs.Response.{Fits}
use Rattle.analysis.specs.Tables.{table_for}
use Rattle.guarantee.specs.Software.{software, program_software}
use Rattle.guarantee.specs.Events.{named}
use Rattle.guarantee.specs.Arrivals.{named_arrivals, KeepsSeparations}
use Rattle.guarantee.specs.Allowed.{Allows}
use Rattle.guarantee.specs.Bounded.{IsBounded}
use Rattle.guarantee.specs.Guaranteed.{externals}
use Rattle.law_designs.specs.Rankings.{IsRanking, program_by, responses_by}

-- a run of a program that a design allows, within bounds by these priorities
pub record IsRightBy (x : Design) (ps : List ℕ) (v : List Bound) (p : Program) (r : Arrivals) : Type 0 where
  pub trace : List Event
  pub means : Meaning p r trace
  pub allowed : Allows x (named_arrivals p r) (named p trace)
  pub bounded : IsBounded (responses_by (flat x) ps v) r.until (named p trace)

-- a text that is guaranteed for a design and bounds by these priorities, up to the farthest horizon allowed
pub record GuaranteedBy (limit : ℕ) (x : Design) (ps : List ℕ) (text : List ℕ) (v : List Bound) : Type 0 where
  pub program : Program
  pub reads : Accepts text program
  pub tasks : map (λ t. t.name) (program_software program).tasks ≡ map (λ t. t.name) (software x).tasks
  pub external : externals (program_software program).tasks ≡ externals (software x).tasks
  pub runs : (r : Arrivals) → KeepsSeparations limit x (named_arrivals program r) → IsRightBy x ps v program r

-- every run of the program of a design by a ranking is right, where the design is proper and meets the rules, and bounds fit its table
abbrev pub RankedDesignsAreRight : ℕ → Type 0
RankedDesignsAreRight limit =
    (x : Design) (ps : List ℕ) (v : List Bound) → IsProperDesign (within_limits is_design_name) x → MeetsRules x → IsRanking (flat (in_ticks x)) ps
    → Fits (table_for (flat (in_ticks x)) ps).rows v
    → (r : Arrivals) → KeepsSeparations limit (in_ticks x) (named_arrivals (program_by (in_ticks x) ps) r)
    → IsRightBy (in_ticks x) ps v (program_by (in_ticks x) ps) r

-- a text with the tokens of such a program is guaranteed for the design and those bounds
abbrev pub RankedTextsAreGuaranteed : ℕ → Type 0
RankedTextsAreGuaranteed limit =
    (x : Design) (ps : List ℕ) (text : List ℕ) (v : List Bound) → IsProperDesign (within_limits is_design_name) x → MeetsRules x
    → IsRanking (flat (in_ticks x)) ps → Fits (table_for (flat (in_ticks x)) ps).rows v
    → length text ≤ ada_limit → plain (tokens text) ≡ Ok (program_tokens (program_by (in_ticks x) ps)) → GuaranteedBy limit (in_ticks x) ps text v

-- what is told of such a program under accepted arrivals is allowed by the design and within the bounds
abbrev pub RankedReplaysAreRight : ℕ → Type 0
RankedReplaysAreRight limit =
    (x : Design) (ps : List ℕ) (v : List Bound) (r : Arrivals) (told : List Event) → IsProperDesign (within_limits is_design_name) x
    → MeetsRules x → IsRanking (flat (in_ticks x)) ps → Fits (table_for (flat (in_ticks x)) ps).rows v
    → IsAccepted limit (program_by (in_ticks x) ps) r → Meaning (program_by (in_ticks x) ps) r told
    → Allows (in_ticks x) (named_arrivals (program_by (in_ticks x) ps) r) (named (program_by (in_ticks x) ps) told)
    × IsBounded (responses_by (flat (in_ticks x)) ps v) r.until (named (program_by (in_ticks x) ps) told)
