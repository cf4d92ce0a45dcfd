-- The last of the first rows that can be last is of the last of the first threads that can be.
use Rattle.std.specs.Prelude.{◌≡◌, ℕ, zero, suc, ◌-◌, ◌≤◌, ◌<◌, List, [], ◌∷◌, length, map, take, get_or, slice_get, Some, refl}
use Rattle.std.specs.List.{range_with_len}
use Rattle.std.proofs.Common.{sym, ◌∙◌, ap, subst, arith}
use Rattle.std.proofs.lemmas.List.{length-map, length-take-le}
use Rattle.std.proofs.lemmas.List.FromFn.{length-range_with_len}
use Rattle.std.proofs.lemmas.Option.{slice_get-get_or, slice_get_within}
use Rattle.seq_tree.specs.Limits.{tick_limit}
use Rattle.ods_tree.specs.Flats.{Flat}
use Rattle.rt_response.specs.declared.rows.ThreadRow.{ThreadRow}
use Rattle.rt_response.specs.Tables.{Each, IsRow}
use Rattle.analysis.specs.Ceilings.{Ranks, ranks}
use Rattle.analysis.specs.Sound.{IsSound}
use Rattle.analysis.specs.Tables.{ThreadTable, table_for}
use Rattle.law_designs.proofs.Shared.Lists.{has-at}
use Rattle.law_designs.proofs.Shared.TabledPrograms.{long}
use Rattle.law_orders.specs.Orders.{AllExternal, IsOrder, priority_in, priorities_by, ranks_by, rows_by, CanBeLast, NoneIsLast}
use Rattle.law_orders.proofs.Shared.OrderPlaces.{order-long, place-stands, take-at}
use Rattle.law_orders.proofs.Shared.OrderRows.{rows-long}
use Rattle.law_orders.proofs.Shared.OrderTables.{rows-each}
use Rattle.priority_search.specs.LastRows.{EndsAt, IsLastRow}
use Rattle.priority_search.specs.Steps.{IsNext}
use Rattle.priority_search.proofs.FirstRows.{ends-last, last-ends}

-- priorities by an order are as many as the threads
pub priorities-count : (f : Flat) (o xs : List ℕ) (count : ℕ) → xs ≡ map (priority_in o) (range_with_len 0 count) → count ≡ length f.threads
    → length xs ≡ length f.threads
priorities-count f o xs count e same =
    let a = ap length e in
    let b = length-map (range_with_len 0 count) (priority_in o) in
    let c = length-range_with_len 0 count in
    omega (arith, a, b, c, same)

pub ranks-by-count : (f : Flat) (o : List ℕ) (r : Ranks) → r ≡ ranks_by f o → length r.threads ≡ length f.threads
ranks-by-count f o r e = priorities-count f o r.threads (length f.threads) (ap (λ (z : Ranks). z.threads) e) refl

pub ranks-count : (f : Flat) (r : Ranks) → r ≡ ranks f → length r.threads ≡ length f.threads
ranks-count f r e = ap (λ (z : Ranks). length z.threads) e ∙ long f 1

pub order-few : (f : Flat) → IsSound f → (o : List ℕ) → IsOrder f o → length o ≤ 30
order-few f sound o order = let a = order-long (length f.threads) o order in let b = sound.formed.thread_count in omega (arith, a, b)

-- the rows of a table by an order
pub table-rows : (f : Flat) (o : List ℕ) (t : ThreadTable) → t ≡ table_for f (priorities_by f o) → t.rows ≡ rows_by f o
table-rows f o t e = ap (λ (z : ThreadTable). z.rows) e

-- a table for the priorities by an order
pub ranks-table : (f : Flat) (o : List ℕ) (r : Ranks) (t : ThreadTable) → r ≡ ranks_by f o → t ≡ table_for f r.threads → t ≡ table_for f
    (priorities_by f o)
ranks-table f o r t e g = g ∙ ap (λ (z : Ranks). table_for f z.threads) e

pub rows-enough : (f : Flat) (o : List ℕ) → IsOrder f o → (t : ThreadTable) → t ≡ table_for f (priorities_by f o) → length t.rows ≡ length o
rows-enough f o order t e =
    let a = ap length (table-rows f o t e) in let b = rows-long f o order in let c = order-long (length f.threads) o order in omega (arith, a, b, c)

each-take : (P : ThreadRow → Type 0) (m : ℕ) (rows : List ThreadRow) → Each P rows → Each P (take m rows)
each-take P zero rows h = tt
each-take P (suc m) [] h = tt
each-take P (suc m) (row ∷ rows) h = (h.0, each-take P m rows h.1)

each-at : (P : ThreadRow → Type 0) (rows : List ThreadRow) (i : ℕ) (d : ThreadRow) → i < length rows → Each P rows → P (get_or rows i d)
each-at P [] i d less h = absurd (omega (arith, less))
each-at P (row ∷ rows) zero d less h = h.0
each-at P (row ∷ rows) (suc i) d less h = each-at P rows i d (omega (arith, less)) h.1

module _ (f : Flat) (sound : IsSound f) (external : AllExternal f) (o : List ℕ) (order : IsOrder f o) (t : ThreadTable)
    (tabled : t ≡ table_for f (priorities_by f o)) (free : ℕ) (some : 1 ≤ free) (most : free ≤ length o) (rows : List ThreadRow)
    (front : rows ≡ take free t.rows) (d : ThreadRow) where
  are-rows : rows ≡ take free (rows_by f o)
  are-rows = front ∙ ap (take free) (table-rows f o t tabled)

  pub first-each : Each (IsRow 0) rows
  first-each = subst (Each (IsRow 0)) (sym are-rows) (each-take (IsRow 0) free (rows_by f o) (rows-each f sound external o order 0))

  pub first-long : length rows ≡ free
  first-long =
      let a = rows-long f o order in
      let b = order-long (length f.threads) o order in
      ap length are-rows ∙ length-take-le free (rows_by f o) (omega (arith, a, b, most))

  pub first-few : length rows ≤ 30
  first-few = let a = first-long in let b = order-few f sound o order in omega (arith, a, b, most)

  pub block-small : (get_or rows (free - 1) d).block ≤ tick_limit
  block-small = (each-at (IsRow 0) rows (free - 1) d (let a = first-long in omega (arith, a, some)) first-each).block

  last-row : (m : ℕ) → free ≡ suc m → slice_get (rows_by f o) m ≡ Some (get_or rows (free - 1) d)
  last-row m e =
      let z : free - 1 ≡ m = omega (arith, e) in
      let inside : free - 1 < length rows = (let a = first-long in omega (arith, a, some)) in
      let at : slice_get rows (free - 1) ≡ Some (get_or rows (free - 1) d) = slice_get-get_or rows (free - 1) d inside in
      ap (slice_get (rows_by f o)) (sym z)
      ∙ (take-at free (rows_by f o) (free - 1) (get_or rows (free - 1) d) (ap (λ rs. slice_get rs (free - 1)) (sym are-rows) ∙ at)).1

  module _ (m : ℕ) (e : free ≡ suc m) where
    enough : suc m ≤ length o
    enough = omega (arith, e, most)

    rows-e : rows ≡ take (suc m) (rows_by f o)
    rows-e = are-rows ∙ ap (λ k. take k (rows_by f o)) e

    to-last : (j own w : ℕ) → slice_get o j ≡ Some own → j < free → EndsAt rows j (get_or rows (free - 1) d).block w → CanBeLast f (take free o) own
    to-last j own w at less ends =
        subst (λ k. CanBeLast f (take k o) own) (sym e)
        (ends-last f o order m enough (get_or rows (free - 1) d) (last-row m e) j own w at (omega (arith, e, less))
        (subst (λ rs. EndsAt rs j (get_or rows (free - 1) d).block w) rows-e ends))

    from-last : (j own : ℕ) → slice_get o j ≡ Some own → j < free → CanBeLast f (take free o) own → (w : ℕ) × EndsAt rows j (get_or rows
        (free - 1) d).block w
    from-last j own at less last =
        let last' : CanBeLast f (take (suc m) o) own = subst (λ k. CanBeLast f (take k o) own) e last in (
          last'.1,
          subst (λ rs. EndsAt rs j (get_or rows (free - 1) d).block last'.1) (sym rows-e)
              (last-ends f o order m enough (get_or rows (free - 1) d) (last-row m e) j own at (omega (arith, e, less)) last'),
        )

    next-found' : (at : ℕ) → IsLastRow rows (get_or rows (free - 1) d).block at → IsNext f o free at
    next-found' at last =
        let inside : at < free = (let a = slice_get_within rows at last.ends.1.row last.ends.1.stands in let b = first-long in omega (arith, a, b)) in
        let own = has-at o at (omega (arith, inside, most)) in
        record {
          inside = inside;
          place = own.0;
          stands = own.1;
          last = to-last at own.0 last.ends.0 own.1 inside last.ends.1;
          none = λ j k later less there can. let ends = from-last j k there less can in last.none j ends.0 later ends.1;
        }

    next-none' : ((j w : ℕ) → EndsAt rows j (get_or rows (free - 1) d).block w → ⊥) → NoneIsLast f (take free o)
    next-none' none own there can =
        let r = place-stands (take free o) own there in
        let s = take-at free o r.0 own r.1 in
        let ends = from-last r.0 own s.1 s.0 can in
        none r.0 ends.0 ends.1

  before : free ≡ suc (free - 1)
  before = omega (arith, some)

  pub next-found : (at : ℕ) → IsLastRow rows (get_or rows (free - 1) d).block at → IsNext f o free at
  next-found = next-found' (free - 1) before

  pub next-none : ((j w : ℕ) → EndsAt rows j (get_or rows (free - 1) d).block w → ⊥) → NoneIsLast f (take free o)
  next-none = next-none' (free - 1) before
