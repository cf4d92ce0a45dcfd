-- What is reported of the thread at a place of the table: it has the priority of that place, with its row, and the cause of its blocking.
use Rattle.std.proofs.Common.{◌≡◌, ℕ, zero, suc, ◌+◌, ◌-◌, ◌<◌, List, [], ◌∷◌, length, zip, Some, refl, sym, ap, ◌∙◌, arith}
use Rattle.std.specs.Prelude.{option_and_then, option_map, slice_get}
use Rattle.std.proofs.lemmas.Option.{none-some, same_Some, slice_get_within}
use Rattle.ods_tree.specs.Flats.{Flat, Thread}
use Rattle.rt_response.specs.declared.rows.ThreadRow.{ThreadRow}
use Rattle.analysis.specs.Ceilings.{numbered}
use Rattle.analysis.specs.Priorities.{priorities_of}
use Rattle.analysis.specs.Tables.{downwards, row_at, row_of, table}
use Rattle.block_causes.specs.Causes.{cause}
use Rattle.law_lists.proofs.Shared.Places.{all-at, map-at, same-item, zip-at}
use Rattle.law_designs.proofs.Shared.Lists.{has-at}
use Rattle.law_orders.proofs.Shared.DeadlineOrders.{order-at, order-count, priority-there}
use Rattle.law_orders.proofs.Shared.OrderRows.{all-made-at}
use Rattle.design_bounds.proofs.Shared.TablePlaces.{places-stand, rows-long}
use Rattle.late_response.specs.declared.reach.Reach.{Reach}
use Rattle.explanation.specs.declared.reasons.Reasons.{Reasons}
use Rattle.explanation.specs.Threads.{Known, blocker_of, causes, reasons_at, reasons_of}
use Rattle.law_explanations.proofs.Placed.{told-rows}

down-at : (n i : ℕ) → i < n → slice_get (downwards n) i ≡ Some (n - i)
down-at zero i h = absurd (omega (arith, h))
down-at (suc n) zero h = let z : suc n ≡ suc n - 0 = omega arith in ap Some z
down-at (suc n) (suc i) h = let z : n - i ≡ suc n - suc i = omega arith in down-at n i (omega (arith, h)) ∙ ap Some z

-- an item of two lists is one of both
zipped-with : {A B : Type 0} (xs : List A) (ys : List B) (i : ℕ) (z : A × B) → slice_get (zip xs ys) i ≡ Some z → slice_get xs i ≡ Some z.0
zipped-with [] ys i z e = absurd (none-some z e)
zipped-with (x ∷ xs) [] i z e = absurd (none-some z e)
zipped-with {A} {B} (x ∷ xs) (y ∷ ys) zero z e =
    let p : A × B = (x, y) in
    ap (λ w. Some w.0) (same_Some p z e)
zipped-with (x ∷ xs) (y ∷ ys) (suc i) z e = zipped-with xs ys i z e

module _ (f : Flat) where
  abbrev n : ℕ
  n = length f.threads

  abbrev ps : List ℕ
  ps = priorities_of f

  row-there : (j k : ℕ) → slice_get (table f).places j ≡ Some k → (row : ThreadRow) × (row_at f ps k ≡ Some row)
  row-there j k at =
      let u = has-at f.threads k (all-at (λ p. p < n) (table f).places j k (places-stand f) at) in
      let there = priority-there f j k at in
      (row_of f ps u.0 (n - j), rw (u.1, there.1) refl)

  -- the row of a place is that of its thread, with the priority of the place
  pub row-stands : (i k : ℕ) (u : Thread) → slice_get (table f).places i ≡ Some k → slice_get f.threads k ≡ Some u
      → slice_get (table f).rows i ≡ Some (row_of f ps u (n - i))
  row-stands i k u at is =
      let there = priority-there f i k at in
      let made : row_at f ps k ≡ Some (row_of f ps u (n - i)) = rw (is, there.1) refl in
      all-made-at (row_at f ps) (table f).places row-there i k (row_of f ps u (n - i)) at made

-- what is reported of a thread of a flat design
pub record IsReason (first : ℕ) (f : Flat) (found : List Reach) (i : ℕ) (t : Reasons) : Type 0 where
  pub inside : i < length f.threads
  pub place : ℕ
  pub thread : Thread
  pub stands : slice_get f.threads place ≡ Some thread
  pub has : slice_get (priorities_of f) place ≡ Some (length f.threads - i)
  pub name : t.name ≡ thread.name
  pub priority : t.priority ≡ length f.threads - i + (first - 1)
  pub row : t.row ≡ row_of f (priorities_of f) thread (length f.threads - i)
  pub reach : slice_get found i ≡ Some t.reach
  pub blocker : t.blocker ≡ option_and_then (blocker_of f) (cause f (priorities_of f) (length f.threads - i))

module _ (first : ℕ) (f : Flat) (found : List Reach) (long : length found ≡ length (table f).rows) where
  abbrev ks : List Known
  ks = zip (table f).places (zip (table f).rows (zip found (zip (causes f) (numbered first (downwards (length f.threads))))))

  abbrev told : Known → Thread → Reasons
  told k u = record {
    name = u.name;
    priority = k.1.1.1.1;
    row = k.1.0;
    reach = k.1.1.0;
    blocker = option_and_then (blocker_of f) k.1.1.1.0;
  }

  reason-made : (k : Known) (u : Thread) → slice_get f.threads k.0 ≡ Some u → reasons_at f k ≡ Some (told k u)
  reason-made k u e = ap (option_map (told k)) e

  told-there : (j : ℕ) (k : Known) → slice_get ks j ≡ Some k → (t : Reasons) × (reasons_at f k ≡ Some t)
  told-there j k at =
      let place = zipped-with (table f).places _ j k at in
      let u = has-at f.threads k.0 (all-at (λ p. p < length f.threads) (table f).places j k.0 (places-stand f) place) in
      (told k u.0, reason-made k u.0 u.1)

  pub reason-is : (i : ℕ) (t : Reasons) → slice_get (reasons_of first f found) i ≡ Some t → IsReason first f found i t
  reason-is i t at =
      let as_rows = told-rows first f found long in
      let row_at : slice_get (table f).rows i ≡ Some t.row = ap (λ l. slice_get l i) (sym as_rows) ∙ map-at (λ (x : Reasons). x.row) _ i t at in
      let within = slice_get_within (table f).rows i t.row row_at in
      let count : length (table f).rows ≡ length f.threads = rows-long f ∙ order-count f in
      let inside : i < length f.threads = omega (arith, within, count) in
      let level : ℕ = length f.threads - i in
      let order = order-at f i inside in
      let u = has-at f.threads order.0 (all-at (λ p. p < length f.threads) (table f).places i order.0 (places-stand f) order.1) in
      let row = row-stands f i order.0 u.0 order.1 u.1 in
      let r = has-at found i (omega (arith, within, long)) in
      let down = down-at (length f.threads) i inside in
      let caused = map-at (cause f (priorities_of f)) (downwards (length f.threads)) i level down in
      let written = map-at (λ q. q + (first - 1)) (downwards (length f.threads)) i level down in
      let k : Known = (order.0, (row_of f (priorities_of f) u.0 level, (r.0, (cause f (priorities_of f) level, level + (first - 1))))) in
      let known : slice_get ks i ≡ Some k =
      zip-at (table f).places _ i order.0 _ order.1 (zip-at (table f).rows _ i _ _ row (zip-at found _ i r.0 _ r.1
      (zip-at (causes f) (numbered first (downwards (length f.threads))) i _ _ caused written))) in
      let made : reasons_at f k ≡ Some (told k u.0) = reason-made k u.0 u.1 in
      let same : told k u.0 ≡ t =
      same-item (slice_get (reasons_of first f found) i) (told k u.0) t (all-made-at (reasons_at f) ks told-there i k (told k u.0) known made) at in
      record {
        inside = inside;
        place = order.0;
        thread = u.0;
        stands = u.1;
        has = order.2;
        name = ap (λ (z : Reasons). z.name) (sym same);
        priority = ap (λ (z : Reasons). z.priority) (sym same);
        row = ap (λ (z : Reasons). z.row) (sym same);
        reach = r.1 ∙ ap (λ (z : Reasons). Some z.reach) same;
        blocker = ap (λ (z : Reasons). z.blocker) (sym same);
      }
