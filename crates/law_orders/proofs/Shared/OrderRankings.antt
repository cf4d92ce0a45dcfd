-- The priorities by an order are a ranking, and what is worked out by it is its table and its ceilings.
use Rattle.std.specs.Prelude.{◌≡◌, ℕ, List, length, map}
use Rattle.std.specs.List.{range_with_len}
use Rattle.std.proofs.Common.{sym, ◌∙◌, ap, arith}
use Rattle.std.proofs.lemmas.Option.{slice_get_within}
use Rattle.ods_tree.specs.Flats.{Flat}
use Rattle.rt_response.specs.declared.rows.ThreadRow.{ThreadRow}
use Rattle.analysis.specs.Ceilings.{Ranks, ranks_for}
use Rattle.analysis.specs.Tables.{ThreadTable, table_for}
use Rattle.law_designs.specs.Rankings.{IsRanking}
use Rattle.law_orders.specs.Orders.{IsOrder, priority_in, priorities_by, ranks_by, rows_by}
use Rattle.law_orders.proofs.Shared.OrderPlaces.{order-has}
use Rattle.law_orders.proofs.Shared.OrderRows.{priorities-long, priorities-once, priority-of, at-priority, places-are, long}

pub order-ranking : (f : Flat) (o : List ℕ) → IsOrder f o → IsRanking f (priorities_by f o)
order-ranking f o order = record {
  count = priorities-long f o order;
  range = λ k p e.
      let a = at-priority f o order k p e in
      let i = order-has (length f.threads) o order k a.0 in
      let sum = priority-of f o order i.0 k i.1 in
      let inside = slice_get_within o i.0 k i.1 in
      let same = long f o order in
      (omega (arith, a.1, sum, inside, same), omega (arith, a.1, sum));
  once = priorities-once f o order;
}

-- what was found is the table by the order
pub table-by : (f : Flat) (o ps : List ℕ) (rows : List ThreadRow) → IsOrder f o → ps ≡ priorities_by f o → rows ≡ rows_by f o
    → ◌≡◌ {A = ThreadTable} (record { rows = rows; places = o }) (table_for f ps)
table-by f o ps rows order e h =
    let T : List ThreadRow → List ℕ → ThreadTable = λ rs qs. record { rows = rs; places = qs } in
    ap (λ rs. T rs o) h ∙ ap (λ qs. T (rows_by f o) qs) (sym (places-are f o order)) ∙ ap (table_for f) (sym e)

-- and these are the ceilings by it
pub ranks-by : (f : Flat) (o ps shared obcs : List ℕ) → ps ≡ priorities_by f o → shared ≡ (ranks_by f o).shared → obcs ≡ (ranks_by f o).obcs
    → ◌≡◌ {A = Ranks} (record { threads = ps; shared = shared; obcs = obcs }) (ranks_for f ps)
ranks-by f o ps shared obcs e g h =
    let R : List ℕ → List ℕ → List ℕ → Ranks = λ a b c. record { threads = a; shared = b; obcs = c } in
    ap (λ b. R ps b obcs) g ∙ ap (λ c. R ps (ranks_by f o).shared c) h ∙ ap (λ qs. R qs (ranks_by f o).shared (ranks_by f o).obcs) e
    ∙ ap (ranks_for f) (sym e)

-- the priorities that are worked out are those by the order
pub priorities-are : (f : Flat) (o slice : List ℕ) (count : ℕ) (ps : List ℕ) → slice ≡ o → count ≡ length f.threads
    → ps ≡ map (priority_in slice) (range_with_len 0 count) → ps ≡ priorities_by f o
priorities-are f o slice count ps same long e =
    e ∙ ap (λ s. map (priority_in s) (range_with_len 0 count)) same ∙ ap (λ n. map (priority_in o) (range_with_len 0 n)) long
