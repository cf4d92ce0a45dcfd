-- A worked example: the chain of the mine pump's methane sensor and its alarm takes at most 29 ticks in every run, where its response times add up
-- to 52; and the sensor uses at most 21.
use Rattle.std.specs.Prelude.{List, [], ◌∷◌, codes, refl}
use Rattle.std.proofs.Common.{lit≤, inl, inr}
use Rattle.seq_tree.specs.Proper.{within_limits}
use Rattle.ods_tree.specs.Words.{is_design_name}
use Rattle.ods_tree.specs.Proper.{IsProperDesign}
use Rattle.ods_tree.specs.Flattening.{flat}
use Rattle.ods_tree.proofs.Shared.Mine.{mine}
use Rattle.design_rules.specs.Rules.{MeetsRules}
use Rattle.design_rules.proofs.Shared.WorkedRules.{meets-where-nothing-told}
use Rattle.ada_tree.specs.Words.{is_ada_name}
use Rattle.arrivals_tree.specs.Arriving.{Arrivals}
use Rattle.arrivals_tree.specs.Acceptance.{IsAccepted}
use Rattle.machine.specs.Meanings.{Meaning}
use Rattle.trace_tree.specs.declared.event.Event.{Event}
use Rattle.rt_response.specs.declared.rows.Bound.{Bound}
use Rattle.rt_response.specs.Response.{IsLeastVector}
use Rattle.analysis.specs.Tables.{table}
use Rattle.guarantee.specs.Events.{named}
use Rattle.guarantee.specs.Programs.{program}
use Rattle.law_chains.specs.Chains.{ChainResponds}
use Rattle.law_responses.specs.Using.{UsesAtMost}
use Rattle.law_runs.proofs.Shared.Worked.{bound}
use Rattle.law_runs.proofs.Shared.WorkedBounds.{round-least}
use Rattle.law_chain_bounds.proofs.PrintedChains.{printed-chains-respond, printed-chains-keep-to-levels, threads-keep-to-costs}

abbrev bounds : List Bound
bounds = bound 0 23 ∷ bound 23 29 ∷ bound 0 45 ∷ bound 0 55 ∷ bound 5 72 ∷ bound 0 128 ∷ []

proper : IsProperDesign (within_limits is_design_name) mine
unfolding is_design_name
proper = search (inl, inr, lit≤) parts 60

meets : MeetsRules mine
unfolding is_ada_name
meets = meets-where-nothing-told mine (record { version = refl; before = refl; after = refl; steps = 4; calls = refl; objects = refl; starts = refl })

least : IsLeastVector (table (flat mine)).rows bounds
least = round-least (table (flat mine)).rows 6 refl refl refl

-- by the level of the alarm, the lower of both
by_level : (r : Arrivals) (told : List Event) → IsAccepted 1000000 (program mine) r → Meaning (program mine) r told
    → ChainResponds r.until (named (program mine) told) 29 (codes "ch4_sensor") (codes "alarm_console" ∷ [])
by_level r told accepted means = printed-chains-keep-to-levels 1000000 mine bounds r told 1 _ proper meets least.fits accepted means refl

-- by the sum
by_sum : (r : Arrivals) (told : List Event) → IsAccepted 1000000 (program mine) r → Meaning (program mine) r told
    → ChainResponds r.until (named (program mine) told) 52 (codes "ch4_sensor") (codes "alarm_console" ∷ [])
by_sum r told accepted means = printed-chains-respond 1000000 mine bounds r told 1 _ proper meets least.fits accepted means refl

-- the cost of the sensor
used : (r : Arrivals) (told : List Event) → IsAccepted 1000000 (program mine) r → Meaning (program mine) r told
    → UsesAtMost 21 (codes "ch4_sensor") (named (program mine) told)
used r told accepted means = (threads-keep-to-costs 1000000 mine r told proper meets accepted means).0
