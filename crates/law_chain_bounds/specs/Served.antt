-- What is promised of a run besides what the design's machine allows and the bounds of threads: of requests, of chains, and of costs.
-- The chains are those of requests (Tindell and Clark 1994), and each takes at most the response time of its thread of lowest priority.
use Rattle.std.specs.Prelude.{◌≡◌, ℕ, List, zip, Some, slice_get, IfSome}
use Rattle.seq_tree.specs.Lists.{Each}
use Rattle.seq_tree.specs.Proper.{within_limits}
use Rattle.ods_tree.specs.Designs.{Design}
use Rattle.ods_tree.specs.Flattening.{flat}
use Rattle.ods_tree.specs.Proper.{IsProperDesign}
use Rattle.ods_tree.specs.Ticks.{in_ticks}
use Rattle.ods_tree.specs.Words.{is_design_name}
use Rattle.design_rules.specs.Rules.{MeetsRules}
use Rattle.arrivals_tree.specs.Arriving.{Arrivals}
use Rattle.arrivals_tree.specs.Acceptance.{IsAccepted}
use Rattle.machine.specs.Meanings.{Meaning}
use Rattle.trace_tree.specs.declared.event.Event as machine
use Rattle.rt_response.specs.declared.rows.ThreadRow.{ThreadRow}
use Rattle.rt_response.specs.declared.rows.Bound.{Bound}
use Rattle.rt_response.specs.Response.{Fits}
use Rattle.response_terms.specs.Paths.{chain_up}
use Rattle.analysis.specs.Priorities.{priorities_of}
use Rattle.analysis.specs.Tables.{table, table_for}
use Rattle.guarantee.specs.Events.{Event, named}
use Rattle.guarantee.specs.Programs.{program}
use Rattle.guarantee.specs.Software.{software}
use Rattle.law_chains.specs.AtOnce.{IsServedAtOnce}
use Rattle.law_designs.specs.Rankings.{IsRanking, program_by}
use Rattle.law_responses.specs.Using.{UsesAtMost}
use Rattle.law_chain_bounds.specs.Printed.{lowest_response, RankedChainResponds}

-- a trace up to a horizon, of a design in ticks with these bounds by these priorities of its threads
pub record ServesBy (x : Design) (ps : List ℕ) (v : List Bound) (until : ℕ) (trace : List Event) : Type 0 where
  -- each request of a sporadic thread is served at once, so that none is lost
  pub requests : Each (λ t. IsServedAtOnce trace t.name t.timing) (software x).tasks
  -- the chain of each row takes at most the response time of its thread of lowest priority
  pub chains : (at : ℕ) (row : ThreadRow) → slice_get (table_for (flat x) ps).rows at ≡ Some row
      → RankedChainResponds (flat x) ps v until trace (lowest_response v (chain_up (table_for (flat x) ps).rows at)) at
  -- each activation uses at most the cost of its row
  pub costs : Each (λ c. IfSome (slice_get (flat x).threads c.0) (λ t. UsesAtMost c.1.cost t.name trace))
      (zip (table_for (flat x) ps).places (table_for (flat x) ps).rows)

-- by deadline-monotonic priorities
abbrev pub Serves : Design → List Bound → ℕ → List Event → Type 0
Serves x = ServesBy x (priorities_of (flat x))

-- every run of the program of a design by a ranking is such a trace, where the design meets the rules and has bounds by it
abbrev pub RankedDesignsServe : ℕ → Type 0
RankedDesignsServe limit =
    (x : Design) (ps : List ℕ) (v : List Bound) (r : Arrivals) (told : List machine.Event)
    → IsProperDesign (within_limits is_design_name) x → MeetsRules x → IsRanking (flat (in_ticks x)) ps
    → Fits (table_for (flat (in_ticks x)) ps).rows v
    → IsAccepted limit (program_by (in_ticks x) ps) r → Meaning (program_by (in_ticks x) ps) r told
    → ServesBy (in_ticks x) ps v r.until (named (program_by (in_ticks x) ps) told)

-- every run of the program of a design that meets the rules and has bounds is such a trace
abbrev pub DesignsServe : ℕ → Type 0
DesignsServe limit =
    (x : Design) (v : List Bound) (r : Arrivals) (told : List machine.Event)
    → IsProperDesign (within_limits is_design_name) x → MeetsRules x → Fits (table (flat (in_ticks x))).rows v
    → IsAccepted limit (program (in_ticks x)) r → Meaning (program (in_ticks x)) r told
    → Serves (in_ticks x) v r.until (named (program (in_ticks x)) told)
