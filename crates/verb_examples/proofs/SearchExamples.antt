-- What the search for an order of priorities answers. It holds of all its parts, and without one of them it doesn't; and an order that is
-- filled, and one that isn't.
use Rattle.std.specs.Prelude.{◌≡◌, ◌==◌, ℕ, ◌≤◌, zero, suc, true, false, List, [], ◌∷◌, Option, Some, Ok, Err, codes, Vec, option_map, slice_get, take, refl}
use Rattle.std.proofs.Common.{Global, ap, subst, sym, ◌∙◌, le_refl, arith}
use Rattle.std.proofs.lemmas.Option.{same_Some, slice_get_within}
use Rattle.seq_tree.specs.Expressions.{Number}
use Rattle.seq_tree.specs.Statements.{Call, Work}
use Rattle.ods_tree.specs.Flats.{Thread, Flat}
use Rattle.ods_tree.specs.Flattening.{flat}
use Rattle.ods_tree.proofs.Shared.Short.{cyc, spo, design, several}
use Rattle.rt_response.specs.Response.{IsLeastVector}
use Rattle.analysis.specs.Priorities.{priorities_of}
use Rattle.law_orders.specs.Orders.{AllExternal, IsOrder, ranks_by, rows_by, Passes, IsFilled, IsLowest, IsStuck, IsObstacle, EndsLast, CanBeLast, has_place}
use Rattle.priority_search.specs.Searches.{Searches}
use Rattle.priority_search.specs.Steps.{listed}
use Rattle.priority_search.specs.declared.found.Found.{Found}
use Rattle.priority_search.specs.declared.found.NotFound.TheVariants as cause

-- AN ORDER
found : (f : Flat) (o : Found) → AllExternal f → IsOrder f o.order.items → IsFilled f o.order.items → Passes f o.order.items
    → o.shared.items ≡ (ranks_by f o.order.items).shared → o.obcs.items ≡ (ranks_by f o.order.items).obcs → o.rows.items ≡ rows_by f o.order.items
    → IsLeastVector (rows_by f o.order.items) o.bounds.items → Searches f (Ok o)
found f o e order filled passes s c r l =
    record { external = e; order = order; filled = filled; passes = passes; shared = s; obcs = c; rows = r; least = l }

module _ (f : Flat) (o : Found) where
  some_started : ¬ AllExternal f → Searches f (Ok o) → ⊥
  some_started never h = never h.external

  no_order : ¬ IsOrder f o.order.items → Searches f (Ok o) → ⊥
  no_order never h = never h.order

  not_filled : ¬ IsFilled f o.order.items → Searches f (Ok o) → ⊥
  not_filled never h = never h.filled

  not_passing : ¬ Passes f o.order.items → Searches f (Ok o) → ⊥
  not_passing never h = never h.passes

  other_ceilings : ¬ (o.shared.items ≡ (ranks_by f o.order.items).shared) → Searches f (Ok o) → ⊥
  other_ceilings never h = never h.shared

  other_controls : ¬ (o.obcs.items ≡ (ranks_by f o.order.items).obcs) → Searches f (Ok o) → ⊥
  other_controls never h = never h.obcs

  other_rows : ¬ (o.rows.items ≡ rows_by f o.order.items) → Searches f (Ok o) → ⊥
  other_rows never h = never h.rows

  not_least : ¬ IsLeastVector (rows_by f o.order.items) o.bounds.items → Searches f (Ok o) → ⊥
  not_least never h = never h.least

-- NO ORDER
module _ (f : Flat) (threads : Vec ℕ Global) where
  refuted : (order : List ℕ) (left : ℕ) → AllExternal f → IsStuck f order left → threads.items ≡ listed f (take left order)
      → IsObstacle f threads.items → ((other : List ℕ) → IsOrder f other → Passes f other → ⊥) → Searches f (Err (cause.None threads))
  refuted order left e s l o n = record { external = e; order = order; left = left; stuck = s; listed = l; obstacle = o; none = n }

  some_requested : ¬ AllExternal f → Searches f (Err (cause.None threads)) → ⊥
  some_requested never h = never h.external

  never_stuck : ((order : List ℕ) (left : ℕ) → IsStuck f order left → ⊥) → Searches f (Err (cause.None threads)) → ⊥
  never_stuck never h = never h.order h.left h.stuck

  others_left : ((order : List ℕ) (left : ℕ) → IsStuck f order left → threads.items ≡ listed f (take left order) → ⊥)
      → Searches f (Err (cause.None threads)) → ⊥
  others_left never h = never h.order h.left h.stuck h.listed

  no_obstacle : ¬ IsObstacle f threads.items → Searches f (Err (cause.None threads)) → ⊥
  no_obstacle never h = never h.obstacle

  one_passes : (other : List ℕ) → IsOrder f other → Passes f other → Searches f (Err (cause.None threads)) → ⊥
  one_passes other order passes h = h.none other order passes

-- a thread that another one requests
abbrev started : Flat
started = flat (several (cyc (codes "p") 50 50 (Call (codes "s") (codes "start") (Number 7 ∷ []) ∷ []) ∷ spo (codes "s") 50 20 (Work 4 ∷ []) ∷ []))

started_inside : Searches started (Err (cause.Started 1))
started_inside = refl

places-differ : ◌≡◌ {A = Option ℕ} (Some 1) (Some 0) → ⊥
places-differ e = let told : Some true ≡ Some false = ap (option_map (λ n. n == 1)) e in cc

started_outside : Searches started (Err (cause.Started 0)) → ⊥
started_outside h = places-differ h

no_memory : Searches started (Err cause.NoMemory)
no_memory = tt

-- FILLING AN ORDER
-- one thread of four ticks, which can be last of itself
abbrev one : Flat
one = flat (design (cyc (codes "a") 10 10 (Work 3 ∷ [])))

lowest : IsLowest one (0 ∷ []) 0
lowest = record {
  among = refl;
  last = (_, 4, refl, record { meets = le_refl 4; deadline = omega arith; period = omega arith });
  least = by;
}
  where
    by : (place p q : ℕ) → has_place (0 ∷ []) place ≡ true → CanBeLast one (0 ∷ []) place → slice_get (priorities_of one) 0 ≡ Some p
        → slice_get (priorities_of one) place ≡ Some q → p ≤ q
    by zero p q there can a b = (let own = same_Some 1 p a in let same = same_Some 1 q b in omega (arith, own, same))
    by (suc place) p q there can a b = (let inside = slice_get_within (priorities_of one) (suc place) q b in absurd (omega (arith, inside)))

one_filled : IsFilled one (0 ∷ [])
one_filled zero own e = subst (λ k. IsLowest one (0 ∷ []) k) (same_Some 0 own e) lowest
one_filled (suc i) own e = let inside = slice_get_within (0 ∷ []) (suc i) own e in absurd (omega (arith, inside))

-- one of six ticks, whose deadline is five: it can't
abbrev late : Flat
late = flat (design (cyc (codes "a") 5 5 (Work 5 ∷ [])))

late-there : (s t : Thread) (w : ℕ) → slice_get late.threads 0 ≡ Some s → slice_get late.threads 0 ≡ Some t → EndsLast late (0 ∷ []) 0 t w
    → EndsLast late (0 ∷ []) 0 s w
late-there s t w here at ends = subst (λ u. EndsLast late (0 ∷ []) 0 u w) (same_Some t s (sym at ∙ here)) ends

late-last : CanBeLast late (0 ∷ []) 0 → ⊥
late-last can =
    let ends = late-there _ can.0 can.1 refl can.2 can.3 in
    let meets : 6 ≤ can.1 = ends.meets in
    let most : can.1 ≤ 5 = ends.deadline in
    omega (arith, meets, most)

late_filled : IsFilled late (0 ∷ []) → ⊥
late_filled h = late-last (h 0 0 refl).last

-- nor is an order filled with a thread that isn't among those that are left
strange : IsLowest one (0 ∷ []) 1 → ⊥
strange h = let told : false ≡ true = h.among in cc
