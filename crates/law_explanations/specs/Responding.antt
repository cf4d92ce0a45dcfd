-- What is reported of a chain of requests holds in every run: it never takes longer than the response time that is printed of it.
-- Chains are those of Tindell and Clark 1994; the bound comes of the busy periods of Lehoczky 1990.
use Rattle.std.specs.Prelude.{◌≡◌, ℕ, List, [], ◌∷◌, filter_map, option_map, reverse, slice_get, Some, None}
use Rattle.seq_tree.specs.Names.{Name}
use Rattle.seq_tree.specs.Proper.{within_limits}
use Rattle.ods_tree.specs.Designs.{Design}
use Rattle.ods_tree.specs.Flattening.{flat}
use Rattle.ods_tree.specs.Proper.{IsProperDesign}
use Rattle.ods_tree.specs.Ticks.{in_ticks}
use Rattle.ods_tree.specs.Words.{is_design_name}
use Rattle.design_rules.specs.Rules.{MeetsRules}
use Rattle.arrivals_tree.specs.Arriving.{Arrivals}
use Rattle.arrivals_tree.specs.Acceptance.{IsAccepted}
use Rattle.machine.specs.Meanings.{Meaning}
use Rattle.trace_tree.specs.declared.event.Event as machine
use Rattle.analysis.specs.Tables.{table}
use Rattle.guarantee.specs.Events.{named}
use Rattle.guarantee.specs.Programs.{program}
use Rattle.law_chains.specs.Chains.{ChainResponds}
use Rattle.late_response.specs.declared.reach.Reach.{Reach}
use Rattle.explanation.specs.declared.reasons.Reasons.{Reasons}
use Rattle.explanation.specs.Chains.{chain_response}
use Rattle.explanation.specs.Findings.{IsFound}
use Rattle.explanation.specs.Threads.{chains, reasons_of}

-- the names of the threads of a chain, its first thread first; the places come from the last one up
abbrev pub names_along : List Reasons → List ℕ → List Name
names_along ts chain = reverse (filter_map (λ place. option_map (λ (t : Reasons). t.name) (slice_get ts place)) chain)

-- what holds of the first of names and of the others; there is a first one
abbrev pub OfNames : (Name → List Name → Type 0) → List Name → Type 0
OfNames P [] = ⊥
OfNames P (first ∷ more) = P first more

-- in every run of the program of a design that keeps its limits, each chain that is reported of it responds within what is reported
abbrev pub ExplainedChainsRespond : ℕ → Type 0
ExplainedChainsRespond limit =
    (first : ℕ) (x : Design) (found : List Reach) (r : Arrivals) (told : List machine.Event) (at : ℕ) (chain : List ℕ)
    → IsProperDesign (within_limits is_design_name) x → MeetsRules x → IsFound (flat (in_ticks x)) found None
    → IsAccepted limit (program (in_ticks x)) r → Meaning (program (in_ticks x)) r told
    → slice_get (chains (table (flat (in_ticks x))).rows) at ≡ Some chain
    → OfNames (ChainResponds r.until (named (program (in_ticks x)) told) (chain_response (reasons_of first (flat (in_ticks x)) found) chain))
    (names_along (reasons_of first (flat (in_ticks x)) found) chain)
