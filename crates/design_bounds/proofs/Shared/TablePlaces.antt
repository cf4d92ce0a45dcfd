-- Each row of the table of a flat design has a place, at which a thread stands; a value over its limit is that of a row.
use Rattle.std.proofs.Common.{◌≡◌, ℕ, suc, ◌+◌, ◌<◌, ◌==◌, Bool, true, false, List, [], ◌∷◌, length, Option, Some, None, slice_get, refl, sym}
use Rattle.std.proofs.Common.{ap, subst, ◌∙◌, arith}
use Rattle.std.specs.Prelude.{filter_map, position, nat_lt, option_map, option_and_then}
use Rattle.std.specs.List.{cons_option}
use Rattle.std.proofs.lemmas.Option.{slice_get_within}
use Rattle.seq_tree.specs.Lists.{Each}
use Rattle.seq_tree.specs.Names.{Name}
use Rattle.ods_tree.specs.Flats.{Thread, Flat}
use Rattle.rt_response.specs.declared.rows.ThreadRow.{ThreadRow}
use Rattle.rt_response.specs.declared.rows.Bound.{Bound}
use Rattle.rt_response.specs.declared.excess.Excess.{Excess}
use Rattle.rt_response.specs.Rounds.{IsMiss, first_excess, round}
use Rattle.rt_response.specs.declared.rows.Miss as rows
use Rattle.analysis.specs.Ceilings.{Ranks, ranks}
use Rattle.analysis.specs.Priorities.{priorities_of}
use Rattle.analysis.specs.Tables.{ThreadTable, downwards, row_at, row_of, table}
use Rattle.law_lists.proofs.Shared.Places.{all-at}
use Rattle.law_designs.proofs.Shared.PriorityLists.{position-stands}
use Rattle.law_designs.proofs.Shared.Lists.{has-at}
use Rattle.law_designs.proofs.Shared.TabledPrograms.{long}
use Rattle.design_bounds.specs.Rows.{name_of_row}

-- the values that a list gives have what each of them has
each-found : {A B : Type 0} (P : B → Type 0) (g : A → Option B) (xs : List A) → ((a : A) (b : B) → g a ≡ Some b → P b) → Each P (filter_map g xs)
each-found P g [] h = tt
each-found {A} {B} P g (x ∷ xs) h = by (g x) refl (each-found P g xs h)
  where
    by : (o : Option B) → g x ≡ o → Each P (filter_map g xs) → Each P (cons_option o (filter_map g xs))
    by None e rest = rest
    by (Some b) e rest = (h x b e, rest)

-- where each item gives a value, there are as many
all-found : {A B : Type 0} (P : A → Type 0) (g : A → Option B) (xs : List A) → ((a : A) → P a → (b : B) × (g a ≡ Some b)) → Each P xs
    → length (filter_map g xs) ≡ length xs
all-found P g [] h each = refl
all-found P g (x ∷ xs) h each = ap (λ o. length (cons_option o (filter_map g xs))) (h x each.0).1 ∙ ap suc (all-found P g xs h each.1)

-- an excess is that of a row
pub excess-at : (i : ℕ) (rows : List ThreadRow) (v : List Bound) (x : Excess) → first_excess i rows v ≡ Some x → x.index < i + length rows
excess-at i [] v x e = cc
excess-at i (row ∷ rows) [] x e = cc
excess-at i (row ∷ rows) (b ∷ v) x e = over (nat_lt row.deadline b.response) (nat_lt row.period (b.jitter + b.response)) refl refl
    (excess-at (suc i) rows v x)
  where
    here : (o : Excess) → Some o ≡ Some x → o.index ≡ i → x.index < i + suc (length rows)
    here o h at = (let same : o ≡ x = cc in let is : x.index ≡ i = ap (λ z. z.index) (sym same) ∙ at in omega (arith, is))

    over : (d s : Bool) → nat_lt row.deadline b.response ≡ d → nat_lt row.period (b.jitter + b.response) ≡ s
        → (first_excess (suc i) rows v ≡ Some x → x.index < suc i + length rows) → x.index < i + suc (length rows)
    over true s p q later = here _ (rw p at e) refl
    over false true p q later = here _ (rw (p, q) at e) refl
    over false false p q later = (let h = later (rw (p, q) at e) in omega (arith, h))

module _ (f : Flat) where
  abbrev ps : List ℕ
  ps = priorities_of f

  -- at each place of the table a thread stands
  pub places-stand : Each (λ at. at < length f.threads) (table f).places
  places-stand =
      each-found (λ at. at < length f.threads) (λ p. position (λ q. q == p) ps) (downwards (length ps)) (λ q at e.
      let inside = slice_get_within ps at q (position-stands ps q at e) in omega (arith, inside, long f 1))

  has-row : (at : ℕ) → at < length f.threads → (row : ThreadRow) × (row_at f ps at ≡ Some row)
  has-row at inside =
      let thread = has-at f.threads at inside in
      let priority = has-at ps at (omega (arith, inside, long f 1)) in
      (row_of f ps thread.0 priority.0, rw (thread.1, priority.1) refl)

  pub rows-long : length (table f).rows ≡ length (table f).places
  rows-long = all-found (λ at. at < length f.threads) (row_at f ps) (table f).places has-row places-stand

  miss-place : (m : rows.Miss) → IsMiss (table f).rows m → m.index < length (table f).places
  miss-place m h = (let inside = excess-at 0 (table f).rows (round (table f).rows m.round) _ h.over in omega (arith, inside, rows-long))

  -- a value over its limit is that of a row with a place
  pub miss-inside : (t : ThreadTable) (m : rows.Miss) → t ≡ table f → IsMiss (table f).rows m → m.index < length t.places
  miss-inside t m e h = (let Below : ThreadTable → Type 0 = λ s. m.index < length s.places in subst Below (sym e) (miss-place m h))

  -- at the place of a row a thread stands
  pub place-inside : (t : ThreadTable) (index place : ℕ) → t ≡ table f → slice_get t.places index ≡ Some place → place < length f.threads
  place-inside t index place e at =
      all-at (λ p. p < length f.threads) (table f).places index place places-stand (ap (λ s. slice_get s.places index) (sym e) ∙ at)

  -- the name of the thread of a row
  pub called-at : (t : ThreadTable) (index place : ℕ) (thread : Thread) (name : Name) → t ≡ table f → slice_get t.places index ≡ Some place
      → slice_get f.threads place ≡ Some thread → name ≡ thread.name
      → name_of_row f index ≡ Some name
  called-at t index place thread name e at h k =
      ap (option_and_then (λ p. option_map (λ u. u.name) (slice_get f.threads p))) (ap (λ s. slice_get s.places index) (sym e) ∙ at) ∙ ap
      (option_map (λ u. u.name)) h ∙ ap Some (sym k)

-- there are as many priorities as threads
pub ranks-long : (f : Flat) (r : Ranks) → r ≡ ranks f → length r.threads ≡ length f.threads
ranks-long f r e = ap (λ q. length q.threads) e ∙ long f 1
