-- A trace serves a design by some priorities where each of three parts holds, and not without one of them.
use Rattle.std.specs.Prelude.{◌≡◌, ℕ, List, zip, Some, slice_get, IfSome}
use Rattle.seq_tree.specs.Lists.{Each}
use Rattle.ods_tree.specs.Designs.{Design}
use Rattle.ods_tree.specs.Flattening.{flat}
use Rattle.rt_response.specs.declared.rows.ThreadRow.{ThreadRow}
use Rattle.rt_response.specs.declared.rows.Bound.{Bound}
use Rattle.response_terms.specs.Paths.{chain_up}
use Rattle.analysis.specs.Priorities.{priorities_of}
use Rattle.analysis.specs.Tables.{table_for}
use Rattle.guarantee.specs.Events.{Event}
use Rattle.guarantee.specs.Software.{software}
use Rattle.law_chains.specs.AtOnce.{IsServedAtOnce}
use Rattle.law_responses.specs.Using.{UsesAtMost}
use Rattle.law_chain_bounds.specs.Printed.{lowest_response, RankedChainResponds}
use Rattle.law_chain_bounds.specs.Served.{Serves, ServesBy}

module _ (x : Design) (ps : List ℕ) (v : List Bound) (until : ℕ) (trace : List Event) where
  abbrev rows : List ThreadRow
  rows = (table_for (flat x) ps).rows

  abbrev Requests : Type 0
  Requests = Each (λ t. IsServedAtOnce trace t.name t.timing) (software x).tasks

  abbrev Chain : ℕ → Type 0
  Chain at = RankedChainResponds (flat x) ps v until trace (lowest_response v (chain_up rows at)) at

  abbrev Costs : Type 0
  Costs = Each (λ c. IfSome (slice_get (flat x).threads c.0) (λ t. UsesAtMost c.1.cost t.name trace)) (zip (table_for (flat x) ps).places rows)

  serves : Requests → ((at : ℕ) (row : ThreadRow) → slice_get rows at ≡ Some row → Chain at) → Costs → ServesBy x ps v until trace
  serves requests chains costs = record { requests = requests; chains = chains; costs = costs }

  a_lost_request : (Requests → ⊥) → ServesBy x ps v until trace → ⊥
  a_lost_request never h = never h.requests

  a_late_chain : (at : ℕ) (row : ThreadRow) → slice_get rows at ≡ Some row → (Chain at → ⊥) → ServesBy x ps v until trace → ⊥
  a_late_chain at row here never h = never (h.chains at row here)

  too_much_used : (Costs → ⊥) → ServesBy x ps v until trace → ⊥
  too_much_used never h = never h.costs

-- by deadline-monotonic priorities it is what `Serves` says
by_deadlines : (x : Design) (v : List Bound) (until : ℕ) (trace : List Event) → ServesBy x (priorities_of (flat x)) v until trace → Serves x v until trace
by_deadlines x v until trace h = h
