-- Each premise of the law on designs asks something: a bound that is a tick too small is not kept, a deadline that is a tick too early has
-- no bounds, a starter that is too quick makes another thread late, and an object with a word of the language as its name stands in no text.
use Rattle.std.specs.Prelude.{◌≡◌, ℕ, zero, suc, ◌<◌, true, List, [], ◌∷◌, Some, None, codes, refl}
use Rattle.std.proofs.Common.{lit≤, arith}
use Rattle.seq_tree.specs.Expressions.{Number}
use Rattle.seq_tree.specs.Proper.{within_limits}
use Rattle.seq_tree.specs.Statements.{Call, Work}
use Rattle.ods_tree.specs.Designs.{Design}
use Rattle.ods_tree.specs.Words.{is_design_name}
use Rattle.ods_tree.specs.Proper.{IsProperDesign}
use Rattle.ods_tree.specs.Flattening.{flat}
use Rattle.ods_tree.proofs.Shared.Short.{cyc, cyc_at, spo, pro, several, design, call}
use Rattle.design_rules.specs.Broken.{V16}
use Rattle.design_rules.specs.Rules.{MeetsRules, Spacing}
use Rattle.design_rules.proofs.Shared.WorkedRules.{meets-where-nothing-told}
use Rattle.ada_tree.specs.Words.{is_ada_name}
use Rattle.rt_response.specs.declared.rows.Bound.{Bound}
use Rattle.rt_response.specs.declared.rows.Limit.TheVariants.{Deadline}
use Rattle.rt_response.specs.declared.rows.Miss.{Miss}
use Rattle.rt_response.specs.Response.{Fits, IsLeastVector}
use Rattle.rt_response.specs.Rounds.{round, first_excess, IsMiss}
use Rattle.rt_response.proofs.Shared.Least.{miss-none_fits}
use Rattle.analysis.specs.Tables.{table}
use Rattle.analysis.proofs.Shared.Nested.{nested}
use Rattle.trace_tree.specs.Lines.{unit_name, unit_ops}
use Rattle.trace_tree.specs.declared.event.Event.{Event}
use Rattle.trace_tree.specs.declared.event.Event.TheVariants as event
use Rattle.machine.specs.Meanings.{Meaning}
use Rattle.guarantee.specs.Arrivals.{named_arrivals, KeepsSeparations}
use Rattle.guarantee.specs.Events.{named}
use Rattle.guarantee.specs.Bounded.{IsBounded}
use Rattle.guarantee.specs.Guaranteed.{IsRight}
use Rattle.guarantee.specs.Programs.{program, responses}
use Rattle.law_runs.proofs.Shared.DesignLaw.{designs-are-right}
use Rattle.law_runs.proofs.Shared.Worked.{bound, quiet, right-told, nested-proper, nested-meets, nested-keeps, nested_told, nested-means}
use Rattle.law_runs.proofs.Shared.WorkedBounds.{round-least}

-- of the nested sections, the bound of the lower thread a tick too small
abbrev small_bounds : List Bound
small_bounds = bound 0 7 ∷ bound 0 14 ∷ []

not_bounded : IsBounded (responses (flat nested) small_bounds) 20 (named (program nested) nested_told) → ⊥
unfolding unit_name unit_ops
not_bounded h = let late = h.1.0.0 (lit≤ tt) in omega (arith, late)

small-not_right : IsRight nested small_bounds (program nested) (quiet 20) → ⊥
small-not_right right = not_bounded (right-told nested small_bounds (program nested) (quiet 20) nested_told right nested-means).1

small-none_fits : Fits (table (flat nested)).rows small_bounds → ⊥
small-none_fits fits = small-not_right (designs-are-right 1000000 nested small_bounds nested-proper nested-meets fits (quiet 20) nested-keeps)

-- the same design where the lower thread's deadline is a tick before its bound
abbrev late : Design
late = several (cyc (codes "l") 40 14 (call (codes "q") (codes "set") ∷ []) ∷ cyc_at (codes "h") 20 10 7 (call (codes "e") (codes "set") ∷ [])
    ∷ pro (codes "q") (codes "set") (Work 2 ∷ call (codes "e") (codes "set") ∷ Work 1 ∷ []) ∷ pro (codes "e") (codes "set") (Work 2 ∷ []) ∷ [])

late-proper : IsProperDesign (within_limits is_design_name) late
unfolding is_design_name
late-proper = search parts 40

late-meets : MeetsRules late
unfolding is_ada_name
late-meets = meets-where-nothing-told late (record {
  version = refl;
  before = refl;
  after = refl;
  steps = 3;
  calls = refl;
  objects = refl;
  starts = refl;
})

abbrev late_miss : Miss
late_miss = record { index = 1; which = Deadline; value = 15; limit = 14; round = 1 }

late-misses : IsMiss (table (flat late)).rows late_miss
late-misses = record { earlier = earlier; over = refl }
  where
    earlier : (k : ℕ) → k < 1 → first_excess 0 (table (flat late)).rows (round (table (flat late)).rows k) ≡ None
    earlier zero h = refl
    earlier (suc k) h = absurd (omega (arith, h))

late-none_fits : (v : List Bound) → Fits (table (flat late)).rows v → ⊥
late-none_fits v fits = miss-none_fits (table (flat late)).rows late_miss v late-misses fits

-- a thread that starts another more often than its separation allows: bounds fit, but a rule is broken, and the lowest thread, which
-- counts on one activation of the started one in its window and meets two, is late
abbrev quick : Design
quick = several (cyc (codes "p") 20 20 (call (codes "q") (codes "set") ∷ []) ∷ pro (codes "q") (codes "set")
    (Call (codes "s") (codes "start") (Number 7 ∷ []) ∷ [])
    ∷ spo (codes "s") 50 10 (Work 4 ∷ []) ∷ cyc (codes "l") 100 100 (Work 12 ∷ []) ∷ [])

abbrev quick_bounds : List Bound
quick_bounds = bound 12 7 ∷ bound 0 12 ∷ bound 0 32 ∷ []

quick-proper : IsProperDesign (within_limits is_design_name) quick
unfolding is_design_name
quick-proper = search parts 40

quick-least : IsLeastVector (table (flat quick)).rows quick_bounds
quick-least = round-least (table (flat quick)).rows 4 refl refl refl

quick-keeps : KeepsSeparations 1000000 quick (named_arrivals (program quick) (quiet 38))
quick-keeps = record { horizon = lit≤ tt; durations = tt; times = tt; external = tt; separations = (tt, (tt, (tt, tt))) }

quick-breaks : MeetsRules quick → ⊥
quick-breaks meets = meets Spacing 0 (V16 (codes "p") 20 (codes "s") 50) refl

abbrev quick_told : List Event
quick_told =
    event.Release 0 1 None ∷ event.Release 0 3 None ∷ event.Enter 2 1 0 0 [] ∷ event.Request 6 1 2 (Some 7) ∷ event.Release 6 2 (Some 7)
    ∷ event.Leave 6 1 0 0 []
    ∷ event.End 11 2 5 ∷ event.End 12 1 7 ∷ event.Release 20 1 None ∷ event.Enter 22 1 0 0 [] ∷ event.Request 26 1 2 (Some 7)
    ∷ event.Release 26 2 (Some 7)
    ∷ event.Leave 26 1 0 0 [] ∷ event.End 31 2 5 ∷ event.End 32 1 7 ∷ event.End 37 3 13 ∷ event.Horizon 38 ∷ []

quick-means : Meaning (program quick) (quiet 38) quick_told
quick-means = record { steps = 260; stops = refl; tells = refl }

quick-not_bounded : IsBounded (responses (flat quick) quick_bounds) 38 (named (program quick) quick_told) → ⊥
unfolding unit_name unit_ops
quick-not_bounded h = let late = h.1.1.0.1.0 (lit≤ tt) in omega (arith, late)

quick-not_right : IsRight quick quick_bounds (program quick) (quiet 38) → ⊥
quick-not_right right = quick-not_bounded (right-told quick quick_bounds (program quick) (quiet 38) quick_told right quick-means).1

-- an object whose name is a word of the language, though no word of Ada: bounds fit and the rules are met, but no text reads so
abbrev worded : Design
worded = design (cyc (codes "provides") 10 10 (Work 3 ∷ []))

worded-meets : MeetsRules worded
unfolding is_ada_name
worded-meets = meets-where-nothing-told worded (record {
  version = refl;
  before = refl;
  after = refl;
  steps = 2;
  calls = refl;
  objects = refl;
  starts = refl;
})

worded-least : IsLeastVector (table (flat worded)).rows (bound 0 4 ∷ [])
worded-least = round-least (table (flat worded)).rows 0 refl refl refl

not_name : is_design_name (codes "provides") ≡ true → ⊥
unfolding is_design_name
not_name e = cc

worded-improper : IsProperDesign (within_limits is_design_name) worded → ⊥
worded-improper h = not_name h.1.0.name
