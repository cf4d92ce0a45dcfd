-- What is told of threads, by their places: it is told of each row of the table, in its order.
use Rattle.std.proofs.Common.{◌≡◌, ℕ, suc, ◌<◌, List, [], ◌∷◌, length, map, zip, refl, sym, ap, ◌∙◌, arith}
use Rattle.std.specs.Prelude.{filter_map}
use Rattle.std.proofs.lemmas.List.{length-map}
use Rattle.seq_tree.specs.Lists.{Each}
use Rattle.ods_tree.specs.Flats.{Flat}
use Rattle.rt_response.specs.declared.rows.ThreadRow.{ThreadRow}
use Rattle.analysis.specs.Ceilings.{numbered}
use Rattle.analysis.specs.Tables.{downwards, table}
use Rattle.law_designs.proofs.Shared.TableRanges.{count-down}
use Rattle.law_designs.proofs.Shared.Lists.{has-at}
use Rattle.law_orders.proofs.Shared.DeadlineOrders.{order-count}
use Rattle.design_bounds.proofs.Shared.TablePlaces.{places-stand, rows-long}
use Rattle.late_response.specs.declared.reach.Reach.{Reach}
use Rattle.explanation.specs.Threads.{Known, causes, reasons_at, reasons_of}

-- a fact of each place
each-place : {Y : Type 0} (P : ℕ → Type 0) (ps : List ℕ) (ys : List Y) → Each P ps → Each (λ k. P k.0) (zip ps ys)
each-place P [] ys h = tt
each-place P (p ∷ ps) [] h = tt
each-place P (p ∷ ps) (y ∷ ys) h = (h.0, each-place P ps ys h.1)

module _ (f : Flat) where
  rows-in : (ks : List Known) → Each (λ k. k.0 < length f.threads) ks → map (λ t. t.row) (filter_map (reasons_at f) ks) ≡ map (λ k. k.1.0) ks
  rows-in [] h = refl
  rows-in (k ∷ ks) h = let there = has-at f.threads k.0 h.0 in rw there.1 (ap (λ l. k.1.0 ∷ l) (rows-in ks h.1))

  reaches-in : (ks : List Known) → Each (λ k. k.0 < length f.threads) ks
      → map (λ t. t.reach) (filter_map (reasons_at f) ks) ≡ map (λ k. k.1.1.0) ks
  reaches-in [] h = refl
  reaches-in (k ∷ ks) h = let there = has-at f.threads k.0 h.0 in rw there.1 (ap (λ l. k.1.1.0 ∷ l) (reaches-in ks h.1))

-- the rows and what is told of them, of lists that are as long
zip-rows : {Y : Type 0} (ps : List ℕ) (rows : List ThreadRow) (ys : List Y) → length ps ≡ length rows → length ys ≡ length rows
    → map (λ (k : ℕ × (ThreadRow × Y)). k.1.0) (zip ps (zip rows ys)) ≡ rows
zip-rows [] [] ys h k = refl
zip-rows [] (row ∷ rows) ys h k = absurd (omega (arith, h))
zip-rows (p ∷ ps) [] ys h k = absurd (omega (arith, h))
zip-rows (p ∷ ps) (row ∷ rows) [] h k = absurd (omega (arith, k))
zip-rows (p ∷ ps) (row ∷ rows) (y ∷ ys) h k = ap (λ l. row ∷ l) (zip-rows ps rows ys (omega (arith, h)) (omega (arith, k)))

zip-reaches : {Y : Type 0} (ps : List ℕ) (rows : List ThreadRow) (found : List Reach) (ys : List Y) → length ps ≡ length rows
    → length found ≡ length rows → length ys ≡ length rows
    → map (λ (k : ℕ × (ThreadRow × (Reach × Y))). k.1.1.0) (zip ps (zip rows (zip found ys))) ≡ found
zip-reaches [] [] [] ys h k m = refl
zip-reaches [] [] (r ∷ found) ys h k m = absurd (omega (arith, k))
zip-reaches [] (row ∷ rows) found ys h k m = absurd (omega (arith, h))
zip-reaches (p ∷ ps) [] found ys h k m = absurd (omega (arith, h))
zip-reaches (p ∷ ps) (row ∷ rows) [] ys h k m = absurd (omega (arith, k))
zip-reaches (p ∷ ps) (row ∷ rows) (r ∷ found) [] h k m = absurd (omega (arith, m))
zip-reaches (p ∷ ps) (row ∷ rows) (r ∷ found) (y ∷ ys) h k m =
    ap (λ l. r ∷ l) (zip-reaches ps rows found ys (omega (arith, h)) (omega (arith, k)) (omega (arith, m)))

pub zip-long : {A B : Type 0} (xs : List A) (ys : List B) → length xs ≡ length ys → length (zip xs ys) ≡ length xs
zip-long [] ys h = refl
zip-long (x ∷ xs) [] h = absurd (omega (arith, h))
zip-long (x ∷ xs) (y ∷ ys) h = ap suc (zip-long xs ys (omega (arith, h)))

module _ (first : ℕ) (f : Flat) (found : List Reach) (long : length found ≡ length (table f).rows) where
  abbrev levels : List ℕ
  levels = downwards (length f.threads)

  table-long : length f.threads ≡ length (table f).rows
  table-long = sym (rows-long f ∙ order-count f)

  rest-long : length (zip (causes f) (numbered first levels)) ≡ length (table f).rows
  rest-long =
      let left : length (causes f) ≡ length levels = length-map levels _ in
      let right : length (numbered first levels) ≡ length levels = length-map levels _ in
      zip-long (causes f) (numbered first levels) (left ∙ sym right) ∙ left ∙ count-down (length f.threads) ∙ table-long

  pub found-long : length (zip found (zip (causes f) (numbered first levels))) ≡ length (table f).rows
  found-long = zip-long found (zip (causes f) (numbered first levels)) (long ∙ sym rest-long) ∙ long

  -- threads are told of in the order of the rows
  pub told-rows : map (λ t. t.row) (reasons_of first f found) ≡ (table f).rows
  told-rows =
      rows-in f _ (each-place (λ at. at < length f.threads) (table f).places _ (places-stand f))
      ∙ zip-rows (table f).places (table f).rows _ (sym (rows-long f)) found-long

  pub told-reaches : map (λ t. t.reach) (reasons_of first f found) ≡ found
  told-reaches =
      reaches-in f _ (each-place (λ at. at < length f.threads) (table f).places _ (places-stand f))
      ∙ zip-reaches (table f).places (table f).rows found _ (sym (rows-long f)) long rest-long
