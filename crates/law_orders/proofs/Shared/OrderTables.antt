-- The table of an order is in its ranges, and so are its rows by themselves where no thread starts another.
use Rattle.std.specs.Prelude.{◌≡◌, ℕ, ◌<◌, List, [], ◌∷◌, length, slice_get, Some, None, suc, refl}
use Rattle.std.proofs.Common.{sym, ◌∙◌, ap, subst, arith}
use Rattle.std.proofs.lemmas.Option.{same_Some, slice_get_within}
use Rattle.ods_tree.specs.Flats.{Flat}
use Rattle.rt_response.specs.declared.rows.ThreadRow.{ThreadRow}
use Rattle.rt_response.specs.Tables.{IsRow, IsTable, IsStarter}
use Rattle.rt_response.specs.Tables as tables
use Rattle.analysis.specs.Sound.{IsSound}
use Rattle.analysis.specs.Tables.{row_of}
use Rattle.law_designs.proofs.Shared.TableRanges.{ranked-table}
use Rattle.law_orders.specs.Orders.{AllExternal, IsOrder, priority_in, priorities_by, rows_by}
use Rattle.law_orders.proofs.Shared.OrderRankings.{order-ranking}
use Rattle.law_orders.proofs.Shared.OrderRows.{rows-at, rows-long, thread-of}
use Rattle.law_orders.proofs.Shared.Passing.{starts-none}

-- the table of an order is one that the response equations can be solved for
pub order-table : (f : Flat) → IsSound f → (o : List ℕ) → IsOrder f o → IsTable (rows_by f o)
order-table f sound o order = ranked-table f sound (priorities_by f o) (order-ranking f o order)

-- rows without starters are in their ranges in any table
each-alone : (m n : ℕ) (rows : List ThreadRow) → ((i : ℕ) (row : ThreadRow) → slice_get rows i ≡ Some row → row.starter ≡ None)
    → tables.Each (IsRow n) rows → tables.Each (IsRow m) rows
each-alone m n [] none h = tt
each-alone m n (row ∷ rows) none h = (
  record {
    asks = h.0.asks;
    before_next = h.0.before_next;
    period = h.0.period;
    works = h.0.works;
    cost = h.0.cost;
    block = h.0.block;
    jitter = h.0.jitter;
    starter = subst (IsStarter m) (sym (none 0 row refl)) tt;
  },
  each-alone m n rows (λ i r e. none (suc i) r e) h.1,
)

pub rows-each : (f : Flat) → IsSound f → AllExternal f → (o : List ℕ) → IsOrder f o → (m : ℕ) → tables.Each (IsRow m) (rows_by f o)
rows-each f sound external o order m =
    each-alone m (length (rows_by f o)) (rows_by f o) (λ i row e.
    let inside : i < length f.threads = (let a = slice_get_within (rows_by f o) i row e in let b = rows-long f o order in omega (arith, a, b)) in
    let at = thread-of f o order i inside in
    let is : row_of f (priorities_by f o) at.1 (priority_in o at.0) ≡ row =
    same_Some (row_of f (priorities_by f o) at.1 (priority_in o at.0)) row (sym (rows-at f o order i at.0 at.1 at.2 at.3) ∙ e) in
    ap (λ (r : ThreadRow). r.starter) (sym is) ∙ starts-none f (priorities_by f o) external at.0 at.1 at.3)
    (order-table f sound o order).each
