-- Where a design has bounds by the order of deadlines, this order is the one that is found, and the lines for it are those of `analyse`.
use Rattle.std.proofs.Common.{◌≡◌, ℕ, ◌<◌, ◌-◌, List, length, refl, sym, ap, subst, ◌∙◌, arith}
use Rattle.std.proofs.lemmas.Option.{same_Some, slice_get_within}
use Rattle.ods_tree.specs.Designs.{Design}
use Rattle.ods_tree.specs.Flats.{Flat}
use Rattle.ods_tree.specs.Flattening.{flat}
use Rattle.ods_tree.specs.Ticks.{in_ticks, first_priority}
use Rattle.ods_tree.proofs.Shared.TickLaws.{ticks-first}
use Rattle.rt_response.specs.Response.{Fits, IsLeastVector}
use Rattle.rt_response.specs.declared.rows.Bound.{Bound}
use Rattle.analysis.specs.Priorities.{priorities_of}
use Rattle.analysis.specs.Sound.{IsSound}
use Rattle.analysis.specs.Tables.{table, table_for}
use Rattle.design_bounds.specs.Rows.{named_bounds, ceiling_rows, named_bounds_by, ceiling_rows_by}
use Rattle.law_designs.proofs.Shared.TabledPrograms as tabled
use Rattle.law_orders.specs.Orders.{Passes, priority_in, priorities_by}
use Rattle.law_orders.proofs.Shared.DeadlineFound.{deadline-found}
use Rattle.law_orders.proofs.Shared.DeadlineOrders.{deadline-order, priority-there}
use Rattle.law_orders.proofs.Shared.OrderPlaces.{order-has}
use Rattle.law_orders.proofs.Shared.OrderRows.{priorities-long, priority-at, priority-of}
use Rattle.law_orders.proofs.Shared.DeadlineFound.{lists-same}
use Rattle.hrthood_top.specs.Analyses.{report}
use Rattle.hrthood_top.specs.DeadlineReports.{WritesByDeadline, WritesAsAnalysed}
use Rattle.hrthood_top.specs.Searches.{IsOrdered}
use Rattle.hrthood_top.proofs.GenerateLaws.{one_least}
use Rattle.hrthood_top.proofs.Taken.{one-taken, taken-sound}

-- the priorities by the order of deadlines
priorities-same : (f : Flat) → priorities_by f (table f).places ≡ priorities_of f
priorities-same f =
    let n = length f.threads in
    let o = (table f).places in
    let order = deadline-order f in
    lists-same (priorities_by f o) (priorities_of f) (priorities-long f o order ∙ sym (tabled.long f 1)) (λ k x y e g.
    let less : k < n = (let a = slice_get_within (priorities_by f o) k x e in let b = priorities-long f o order in omega (arith, a, b)) in
    let i = order-has n o order k less in
    let one : priority_in o k ≡ x = same_Some (priority_in o k) x (sym (priority-at f o order k less) ∙ e) in
    let two = priority-of f o order i.0 k i.1 in
    let there = priority-there f i.0 k i.1 in
    let three : n - i.0 ≡ y = same_Some (n - i.0) y (sym there.1 ∙ g) in
    omega (arith, one, two, three))

-- bounds by deadlines are a vector by which the order of deadlines passes
pub passes-so : (f : Flat) (v : List Bound) → Fits (table f).rows v → Passes f (table f).places
passes-so f v h = let P : List ℕ → Type 0 = λ ps. Fits (table_for f ps).rows v in (v, subst P (sym (priorities-same f)) h)

lines-same : (first : ℕ) (f : Flat) (lines : List ℕ) (v : List Bound) → IsSound f → IsOrdered first f lines → IsLeastVector (table f).rows v
    → lines ≡ report (named_bounds first f v) (ceiling_rows first f)
lines-same first f lines v sound o least =
    let same : priorities_by f o.order ≡ priorities_of f =
    (deadline-found f o.order sound o.external (passes-so f v least.fits) o.is_order o.filled).1 in
    let L : List ℕ → Type 0 = λ ps. IsLeastVector (table_for f ps).rows o.bounds in
    let bounds : o.bounds ≡ v = one_least (table f).rows o.bounds v (subst L same o.least) least in
    o.told
    ∙ ap (λ ps. report (named_bounds_by first f ps o.bounds) (ceiling_rows_by first f ps)) same
    ∙ ap (λ u. report (named_bounds first f u) (ceiling_rows first f)) bounds

pub writes-by-deadline : WritesByDeadline
writes-by-deadline bytes lines x bounds w taken least =
    let P : Design → Type 0 = λ z. IsOrdered (first_priority z) (flat z) lines in
    lines-same (first_priority x) (flat x) lines bounds (taken-sound bytes x taken) (subst P (one-taken bytes w.0 x w.1 taken) w.2) least

pub writes-as-analysed : WritesAsAnalysed
writes-as-analysed bytes lines others w a =
    let x = a.made.design in
    writes-by-deadline bytes lines (in_ticks x) a.made.bounds w (record { design = x; reads = a.made.reads; meets = a.made.meets; ticked = refl })
    a.made.least
    ∙ ap (λ n. report (named_bounds n (flat (in_ticks x)) a.made.bounds) (ceiling_rows n (flat (in_ticks x)))) (ticks-first x)
    ∙ sym a.told
