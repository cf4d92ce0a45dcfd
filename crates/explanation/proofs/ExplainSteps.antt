-- What explains a flat design, from what is worked out of it.
use Rattle.std.proofs.Common.{◌≡◌, ℕ, ◌+◌, ◌≤◌, List, [], ◌∷◌, length, map, zip, Option, Some, None, ap, ◌∙◌, arith}
use Rattle.std.specs.Prelude.{filter_map, option_and_then, option_map, slice_get}
use Rattle.std.specs.List.{cons_option}
use Rattle.seq_tree.specs.Lists.{Each}
use Rattle.ods_tree.specs.Flats.{Flat, Thread}
use Rattle.rt_response.specs.declared.rows.ThreadRow.{ThreadRow}
use Rattle.rt_response.specs.Tables.{IsRow}
use Rattle.rt_response.specs.Tables as tables
use Rattle.analysis.specs.Ceilings.{Ranks, numbered, ranks}
use Rattle.analysis.specs.Tables.{ThreadTable, downwards, table, table_for}
use Rattle.block_causes.specs.Causes.{Cause, cause}
use Rattle.design_bounds.proofs.Shared.TablePlaces.{ranks-long}
use Rattle.late_response.specs.declared.reach.Reach.{Reach}
use Rattle.explanation.specs.declared.reasons.Reasons.{Reasons}
use Rattle.explanation.specs.Threads.{HasPeriod, Known, blocker_of, causes, chains, reasons_at, reasons_of}

module _ (first : ℕ) (f g : Flat) (r : Ranks) (t : ThreadTable) (same : g ≡ f) (ranked : r ≡ ranks f) (tabled : t ≡ table_for g r.threads) where
  pub table-is : t ≡ table f
  table-is = tabled ∙ ap (λ h. table_for h r.threads) same ∙ ap (λ (q : Ranks). table_for f q.threads) ranked

  pub chains-are : (cs : List (List ℕ)) (rows : List ThreadRow) → rows ≡ t.rows → cs ≡ chains rows → cs ≡ chains (table f).rows
  chains-are cs rows e h = h ∙ ap chains e ∙ ap (λ (s : ThreadTable). chains s.rows) table-is

  pub reasons-are : (found : List Reach) (cs : List (Option Cause)) (count : ℕ) (ps : List ℕ) (ts : List Reasons)
      → cs ≡ map (cause g r.threads) (downwards (length r.threads)) → count ≡ length r.threads → ps ≡ numbered first (downwards count)
      → ts ≡ filter_map (reasons_at f) (zip t.places (zip t.rows (zip found (zip cs ps)))) → ts ≡ reasons_of first f found
  reasons-are found cs count ps ts caused counted numbers told =
      let long : length r.threads ≡ length f.threads = ranks-long f r ranked in
      let level : cs ≡ causes f = caused ∙ ap (λ h. map (cause h r.threads) (downwards (length r.threads))) same
      ∙ ap (λ n. map (cause f r.threads) (downwards n)) long ∙ ap (λ (q : Ranks). map (cause f q.threads) (downwards (length f.threads))) ranked in
      let priorities : ps ≡ numbered first (downwards (length f.threads)) = numbers ∙ ap (λ n. numbered first (downwards n)) (counted ∙ long) in
      told ∙ ap (λ (s : ThreadTable). filter_map (reasons_at f) (zip s.places (zip s.rows (zip found (zip cs ps))))) table-is
      ∙ ap (λ z. filter_map (reasons_at f) (zip (table f).places (zip (table f).rows (zip found (zip z ps))))) level
      ∙ ap (λ z. filter_map (reasons_at f) (zip (table f).places (zip (table f).rows (zip found (zip (causes f) z))))) priorities

-- each thread has the period of its row
each-has : (f : Flat) (ks : List Known) → Each (λ k. 1 ≤ k.1.0.period) ks → Each HasPeriod (filter_map (reasons_at f) ks)
each-has f [] h = tt
each-has f (k ∷ ks) h = by (slice_get f.threads k.0) (each-has f ks h.1)
  where
    told : Thread → Reasons
    told t = record { name = t.name; priority = k.1.1.1.1; row = k.1.0; reach = k.1.1.0; blocker = option_and_then (blocker_of f) k.1.1.1.0 }

    by : (o : Option Thread) → Each HasPeriod (filter_map (reasons_at f) ks)
        → Each HasPeriod (cons_option (option_map told o) (filter_map (reasons_at f) ks))
    by None rest = rest
    by (Some t) rest = (h.0, rest)

row-has : (n : ℕ) (row : ThreadRow) → IsRow n row → 1 ≤ row.period
row-has n row h = omega (arith, h.asks, h.before_next)

rows-have : {Y : Type 0} (n : ℕ) (places : List ℕ) (rows : List ThreadRow) (ys : List Y) → tables.Each (IsRow n) rows
    → Each (λ (k : ℕ × (ThreadRow × Y)). 1 ≤ k.1.0.period) (zip places (zip rows ys))
rows-have n [] rows ys h = tt
rows-have n (p ∷ places) [] ys h = tt
rows-have n (p ∷ places) (row ∷ rows) [] h = tt
rows-have n (p ∷ places) (row ∷ rows) (y ∷ ys) h = (row-has n row h.0, rows-have n places rows ys h.1)

pub periods : (first n : ℕ) (f : Flat) (found : List Reach) → tables.Each (IsRow n) (table f).rows → Each HasPeriod (reasons_of first f found)
periods first n f found h =
    each-has f _ (rows-have n (table f).places (table f).rows (zip found (zip (causes f) (numbered first (downwards (length f.threads))))) h)
