-- What is promised of the chains and the costs that are printed of a design with bounds: of each row with its starters up to the first one.
-- Sums along chains are those of Tindell and Clark 1994.
use Rattle.std.specs.Prelude.{◌≡◌, ℕ, ◌≤◌, List, [], ◌∷◌, map, filter_map, reverse, zip, max, Some, slice_get, IfSome}
use Rattle.seq_tree.specs.Lists.{Each}
use Rattle.seq_tree.specs.Names.{Name}
use Rattle.seq_tree.specs.Proper.{within_limits}
use Rattle.ods_tree.specs.Designs.{Design}
use Rattle.ods_tree.specs.Flats.{Flat}
use Rattle.ods_tree.specs.Flattening.{flat}
use Rattle.ods_tree.specs.Proper.{IsProperDesign}
use Rattle.ods_tree.specs.Ticks.{in_ticks}
use Rattle.ods_tree.specs.Words.{is_design_name}
use Rattle.design_rules.specs.Rules.{MeetsRules}
use Rattle.arrivals_tree.specs.Arriving.{Arrivals}
use Rattle.arrivals_tree.specs.Acceptance.{IsAccepted}
use Rattle.machine.specs.Meanings.{Meaning}
use Rattle.trace_tree.specs.declared.event.Event as machine
use Rattle.rt_response.specs.declared.rows.ThreadRow.{ThreadRow}
use Rattle.rt_response.specs.declared.rows.Bound.{Bound}
use Rattle.rt_response.specs.Response.{Fits}
use Rattle.response_terms.specs.Paths.{chain_up, chain_response, response_in}
use Rattle.analysis.specs.Priorities.{priorities_of}
use Rattle.analysis.specs.Tables.{table, table_for}
use Rattle.guarantee.specs.Bounded.{Response}
use Rattle.guarantee.specs.Events.{Event, named}
use Rattle.guarantee.specs.Programs.{program}
use Rattle.law_chains.specs.Chains.{ChainResponds}
use Rattle.law_designs.specs.Rankings.{responses_by}
use Rattle.law_responses.specs.Using.{UsesAtMost}

-- the response times of the rows of a chain, the first thread of the chain first; the rows come from the last one up
abbrev pub chain_of : List Response → List ℕ → List Response
chain_of times rows = reverse (filter_map (λ at. slice_get times at) rows)

-- what holds of the first thread of a chain and of the others; a chain has a first one
abbrev pub OfChain : (Name → List Name → Type 0) → List Response → Type 0
OfChain P [] = ⊥
OfChain P (first ∷ more) = P first.thread (map (λ q. q.thread) more)

-- the row of lowest priority among these
abbrev pub lowest_row : List ℕ → ℕ
lowest_row [] = 0
lowest_row (at ∷ more) = max at (lowest_row more)

-- the response time of the thread of lowest priority among these rows
abbrev pub lowest_response : List Bound → List ℕ → ℕ
lowest_response v rows = response_in (slice_get v (lowest_row rows))

-- it is at most the sum of the response times along the chain
abbrev pub LevelsAreWithinSums : Type 0
LevelsAreWithinSums = (v : List Bound) (at : ℕ) (more : List ℕ) → lowest_response v (at ∷ more) ≤ chain_response v (at ∷ more)

-- the chain of a row of a design takes at most so many ticks, in a trace, by these priorities of its threads
abbrev pub RankedChainResponds : Flat → List ℕ → List Bound → ℕ → List Event → ℕ → ℕ → Type 0
RankedChainResponds f ps v until told ticks at =
    OfChain (ChainResponds until told ticks) (chain_of (responses_by f ps v) (chain_up (table_for f ps).rows at))

-- and by deadline-monotonic priorities
abbrev pub PrintedChainResponds : Flat → List Bound → ℕ → List Event → ℕ → ℕ → Type 0
PrintedChainResponds f = RankedChainResponds f (priorities_of f)

-- in every run of the program of a design with bounds each printed chain responds within the response times along it, together
abbrev pub PrintedChainsRespond : ℕ → Type 0
PrintedChainsRespond limit =
    (x : Design) (v : List Bound) (r : Arrivals) (told : List machine.Event) (at : ℕ) (row : ThreadRow)
    → IsProperDesign (within_limits is_design_name) x → MeetsRules x → Fits (table (flat (in_ticks x))).rows v
    → IsAccepted limit (program (in_ticks x)) r → Meaning (program (in_ticks x)) r told → slice_get (table (flat (in_ticks x))).rows at ≡ Some row
    → PrintedChainResponds (flat (in_ticks x)) v r.until (named (program (in_ticks x)) told)
    (chain_response v (chain_up (table (flat (in_ticks x))).rows at)) at

-- and within the response time of its thread of lowest priority
abbrev pub PrintedChainsKeepToLevels : ℕ → Type 0
PrintedChainsKeepToLevels limit =
    (x : Design) (v : List Bound) (r : Arrivals) (told : List machine.Event) (at : ℕ) (row : ThreadRow)
    → IsProperDesign (within_limits is_design_name) x → MeetsRules x → Fits (table (flat (in_ticks x))).rows v
    → IsAccepted limit (program (in_ticks x)) r → Meaning (program (in_ticks x)) r told → slice_get (table (flat (in_ticks x))).rows at ≡ Some row
    → PrintedChainResponds (flat (in_ticks x)) v r.until (named (program (in_ticks x)) told)
    (lowest_response v (chain_up (table (flat (in_ticks x))).rows at)) at

-- in every run of the program of a design that meets the rules each activation of a thread uses at most the cost that is printed of it
abbrev pub ThreadsKeepToCosts : ℕ → Type 0
ThreadsKeepToCosts limit =
    (x : Design) (r : Arrivals) (told : List machine.Event)
    → IsProperDesign (within_limits is_design_name) x → MeetsRules x
    → IsAccepted limit (program (in_ticks x)) r → Meaning (program (in_ticks x)) r told
    → Each (λ c. IfSome (slice_get (flat (in_ticks x)).threads c.0) (λ t. UsesAtMost c.1.cost t.name (named (program (in_ticks x)) told)))
    (zip (table (flat (in_ticks x))).places (table (flat (in_ticks x))).rows)
