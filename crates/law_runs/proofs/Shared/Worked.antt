-- Worked examples: the premises of the law on designs can be met, so that every run of these is right. One protected operation inside
-- another, with numbers of ticks and with units of time and a range of priorities, and a thread that starts another through a protected object.
use Rattle.std.specs.Prelude.{◌≡◌, ℕ, List, [], ◌∷◌, Some, None, codes, refl}
use Rattle.std.proofs.Common.{lit≤, subst}
use Rattle.seq_tree.specs.Proper.{within_limits}
use Rattle.seq_tree.specs.Statements.{Work}
use Rattle.ods_tree.specs.Designs.{Design}
use Rattle.ods_tree.specs.Words.{is_design_name}
use Rattle.ods_tree.specs.Proper.{IsProperDesign}
use Rattle.ods_tree.specs.Ticks.{in_ticks}
use Rattle.ods_tree.specs.Flattening.{flat}
use Rattle.ods_tree.specs.declared.design.AttrKey.TheVariants.{Period, Offset, Deadline, ThreadBudget}
use Rattle.ods_tree.specs.declared.design.TickUnit.TheVariants.{Us, Ms}
use Rattle.ods_tree.proofs.Shared.Short.{attr, cyc_with, pro, group, call}
use Rattle.ods_tree.proofs.Shared.Versions.{version, timed, design_of_two}
use Rattle.design_rules.specs.Rules.{MeetsRules}
use Rattle.design_rules.proofs.Shared.WorkedRules.{meets-where-nothing-told}
use Rattle.ada_tree.specs.Programs.{Program}
use Rattle.ada_tree.specs.Words.{is_ada_name}
use Rattle.arrivals_tree.specs.Arriving.{Arrivals}
use Rattle.trace_tree.specs.declared.event.Event.{Event}
use Rattle.trace_tree.specs.declared.event.Event.TheVariants as event
use Rattle.machine.specs.Systems.{system}
use Rattle.machine.specs.Meanings.{Meaning, start}
use Rattle.machine.proofs.Shared.RunLaws.{Rest-unique}
use Rattle.rt_response.specs.declared.rows.Bound.{Bound}
use Rattle.rt_response.specs.Response.{IsLeastVector}
use Rattle.analysis.specs.Tables.{table}
use Rattle.analysis.proofs.Shared.Nested.{nested, through}
use Rattle.guarantee.specs.Events.{named}
use Rattle.guarantee.specs.Arrivals.{named_arrivals, KeepsSeparations}
use Rattle.guarantee.specs.Allowed.{Allows}
use Rattle.guarantee.specs.Bounded.{IsBounded}
use Rattle.guarantee.specs.Guaranteed.{IsRight}
use Rattle.guarantee.specs.Programs.{program, stated_ranks, responses}
use Rattle.law_runs.proofs.Shared.DesignLaw.{designs-are-right}
use Rattle.law_runs.proofs.Shared.WorkedBounds.{round-least}

abbrev pub bound : ℕ → ℕ → Bound
bound jitter response = record { jitter = jitter; response = response }

-- arrivals up to a horizon, where each `work` takes its whole time and nothing is requested from outside
abbrev pub quiet : ℕ → Arrivals
quiet until = record { until = until; work = []; items = [] }

-- what is told of a right run is allowed and within the bounds
pub right-told : (x : Design) (v : List Bound) (p : Program) (r : Arrivals) (told : List Event) → IsRight x v p r → Meaning p r told
    → Allows x (named_arrivals p r) (named p told) × IsBounded (responses (flat x) v) r.until (named p told)
right-told x v p r told right means =
    let P : List Event → Type 0 = λ es. Allows x (named_arrivals p r) (named p es) × IsBounded (responses (flat x) v) r.until (named p es) in
    subst P (Rest-unique (system p r) (start p r) right.trace told right.means means) (right.allowed, right.bounded)

-- one protected operation inside another
abbrev pub nested_bounds : List Bound
nested_bounds = bound 0 7 ∷ bound 0 15 ∷ []

pub nested-proper : IsProperDesign (within_limits is_design_name) nested
unfolding is_design_name
nested-proper = search parts 40

pub nested-meets : MeetsRules nested
unfolding is_ada_name
nested-meets = meets-where-nothing-told nested (record {
  version = refl;
  before = refl;
  after = refl;
  steps = 3;
  calls = refl;
  objects = refl;
  starts = refl;
})

pub nested-least : IsLeastVector (table (flat nested)).rows nested_bounds
nested-least = round-least (table (flat nested)).rows 2 refl refl refl

pub nested-keeps : KeepsSeparations 1000000 nested (named_arrivals (program nested) (quiet 20))
nested-keeps = record { horizon = lit≤ tt; durations = tt; times = tt; external = tt; separations = (tt, (tt, tt)) }

nested-right : IsRight nested nested_bounds (program nested) (quiet 20)
nested-right = designs-are-right 1000000 nested nested_bounds nested-proper nested-meets nested-least.fits (quiet 20) nested-keeps

-- what is told of it: the inner section of the lower thread delays the upper one by a tick
abbrev pub nested_told : List Event
nested_told =
    event.Release 0 2 None ∷ event.Enter 2 2 0 0 [] ∷ event.Enter 6 2 1 0 [] ∷ event.Release 7 3 None ∷ event.Leave 8 2 1 0 []
    ∷ event.Enter 10 3 1 0 []
    ∷ event.Leave 12 3 1 0 [] ∷ event.End 13 3 5 ∷ event.Leave 14 2 0 0 [] ∷ event.End 15 2 10 ∷ event.Horizon 20 ∷ []

pub nested-means : Meaning (program nested) (quiet 20) nested_told
nested-means = record { steps = 130; stops = refl; tells = refl }

nested-told-right : Allows nested (named_arrivals (program nested) (quiet 20)) (named (program nested) nested_told)
    × IsBounded (responses (flat nested) nested_bounds) 20 (named (program nested) nested_told)
nested-told-right = right-told nested nested_bounds (program nested) (quiet 20) nested_told nested-right nested-means

-- a thread that starts another through a protected object
abbrev through_bounds : List Bound
through_bounds = bound 12 7 ∷ bound 0 12 ∷ []

through-proper : IsProperDesign (within_limits is_design_name) through
unfolding is_design_name
through-proper = search parts 40

through-meets : MeetsRules through
unfolding is_ada_name
through-meets = meets-where-nothing-told through (record {
  version = refl;
  before = refl;
  after = refl;
  steps = 3;
  calls = refl;
  objects = refl;
  starts = refl;
})

through-least : IsLeastVector (table (flat through)).rows through_bounds
through-least = round-least (table (flat through)).rows 3 refl refl refl

through-keeps : KeepsSeparations 1000000 through (named_arrivals (program through) (quiet 15))
through-keeps = record { horizon = lit≤ tt; durations = tt; times = tt; external = tt; separations = (tt, (tt, tt)) }

through-right : IsRight through through_bounds (program through) (quiet 15)
through-right = designs-are-right 1000000 through through_bounds through-proper through-meets through-least.fits (quiet 15) through-keeps

-- what is told of it: the started thread is released inside the protected operation
abbrev through_told : List Event
through_told =
    event.Release 0 1 None ∷ event.Enter 2 1 0 0 [] ∷ event.Request 6 1 2 (Some 7) ∷ event.Release 6 2 (Some 7) ∷ event.Leave 6 1 0 0 []
    ∷ event.End 11 2 5
    ∷ event.End 12 1 7 ∷ event.Horizon 15 ∷ []

through-means : Meaning (program through) (quiet 15) through_told
through-means = record { steps = 100; stops = refl; tells = refl }

through-told-right : Allows through (named_arrivals (program through) (quiet 15)) (named (program through) through_told)
    × IsBounded (responses (flat through) through_bounds) 15 (named (program through) through_told)
through-told-right = right-told through through_bounds (program through) (quiet 15) through_told through-right through-means

-- the first of them with units of time: ticks of half a millisecond, and priorities from 31 on
abbrev written : Design
written = design_of_two (version 500 Us (Some (31, 60))) (group (codes "r") (
    cyc_with (codes "l") (timed Period 20 Ms ∷ timed Deadline 20 Ms ∷ attr ThreadBudget 1000 ∷ []) [] (call (codes "q") (codes "set") ∷ [])
    ∷ cyc_with (codes "h") (timed Period 10 Ms ∷ timed Offset 3500 Us ∷ timed Deadline 5 Ms ∷ attr ThreadBudget 1000 ∷ []) []
    (call (codes "e") (codes "set") ∷ [])
    ∷ pro (codes "q") (codes "set") (Work 2 ∷ call (codes "e") (codes "set") ∷ Work 1 ∷ []) ∷ pro (codes "e") (codes "set") (Work 2 ∷ []) ∷ []))

written-in_ticks : in_ticks written ≡ record nested { version = version 500 Us (Some (31, 60)) }
written-in_ticks = refl

written-ranks : stated_ranks (in_ticks written) ≡ record { threads = 31 ∷ 32 ∷ []; shared = 31 ∷ 32 ∷ []; obcs = 30 ∷ 30 ∷ [] }
written-ranks = refl

written-proper : IsProperDesign (within_limits is_design_name) written
unfolding is_design_name
written-proper = search parts 40

written-meets : MeetsRules written
unfolding is_ada_name
written-meets = meets-where-nothing-told written (record {
  version = refl;
  before = refl;
  after = refl;
  steps = 3;
  calls = refl;
  objects = refl;
  starts = refl;
})

written-least : IsLeastVector (table (flat (in_ticks written))).rows nested_bounds
written-least = round-least (table (flat (in_ticks written))).rows 2 refl refl refl

written-keeps : KeepsSeparations 1000000 (in_ticks written) (named_arrivals (program (in_ticks written)) (quiet 100))
written-keeps = record { horizon = lit≤ tt; durations = tt; times = tt; external = tt; separations = (tt, (tt, tt)) }

written-right : IsRight (in_ticks written) nested_bounds (program (in_ticks written)) (quiet 100)
written-right = designs-are-right 1000000 written nested_bounds written-proper written-meets written-least.fits (quiet 100) written-keeps
