-- The table of an order: its rows stand in the order's places.
use Rattle.std.specs.Prelude.{◌≡◌, ℕ, zero, suc, ◌+◌, ◌-◌, ◌<◌, ◌==◌, List, [], ◌∷◌, filter_map, length, slice_get, position}
use Rattle.std.specs.Prelude.{Option, Some, option_map, option_and_then, refl}
use Rattle.std.specs.List.{range_with_len, cons_option}
use Rattle.std.proofs.Common.{sym, ◌∙◌, ap, arith}
use Rattle.std.proofs.lemmas.List.{length-map}
use Rattle.std.proofs.lemmas.List.FromFn.{length-range_with_len}
use Rattle.std.proofs.lemmas.Option.{none-some, same_Some, slice_get_within}
use Rattle.ods_tree.specs.Flats.{Thread, Flat}
use Rattle.rt_response.specs.declared.rows.ThreadRow.{ThreadRow}
use Rattle.analysis.specs.Tables.{downwards, places_by_priority, row_of, row_at}
use Rattle.law_lists.proofs.Shared.Places.{map-at}
use Rattle.law_designs.proofs.Shared.PriorityLists.{position-is}
use Rattle.law_designs.proofs.Shared.Lists.{has-at}
use Rattle.law_orders.specs.Orders.{IsOrder, priority_in, priorities_by, rows_by}
use Rattle.law_orders.proofs.Shared.OrderPlaces.{AtOnce, order-long, order-within, order-has, order-once, priority-place}

range-at : (m n k : ℕ) → k < n → slice_get (range_with_len m n) k ≡ Some (m + k)
range-at m zero k h = absurd (omega (arith, h))
range-at m (suc n) zero h = let z : m ≡ m + 0 = omega arith in ap Some z
range-at m (suc n) (suc k) h = let z : m + 1 + k ≡ m + suc k = omega arith in range-at (m + 1) n k (omega (arith, h)) ∙ ap Some z

-- what counts down from a list's length to each of its items is the list
down-is : (at : ℕ → Option ℕ) (xs : List ℕ) → ((j x : ℕ) → slice_get xs j ≡ Some x → at (length xs - j) ≡ Some x) → filter_map at (downwards (length xs)) ≡ xs
down-is at [] h = refl
down-is at (x ∷ xs) h =
    let here : at (suc (length xs)) ≡ Some x = let z : suc (length xs) ≡ suc (length xs) - 0 = omega arith in ap at z ∙ h 0 x refl in
    let rest : filter_map at (downwards (length xs)) ≡ xs = down-is at xs (λ j y e. let z : length xs - j ≡ suc (length xs) - suc j = omega arith in ap at z ∙ h (suc j) y e) in
    ap (λ o. cons_option o (filter_map at (downwards (length xs)))) here ∙ ap (λ ys. x ∷ ys) rest

-- what is made of each of some
pub all-made-long : {A B : Type 0} (make : A → Option B) (xs : List A) → ((j : ℕ) (x : A) → slice_get xs j ≡ Some x → (y : B) × (make x ≡ Some y))
    → length (filter_map make xs) ≡ length xs
all-made-long make [] h = refl
all-made-long make (x ∷ xs) h =
    let here = h 0 x refl in
    ap (λ o. length (cons_option o (filter_map make xs))) here.1 ∙ ap suc (all-made-long make xs (λ j y e. h (suc j) y e))

pub all-made-at : {A B : Type 0} (make : A → Option B) (xs : List A) → ((j : ℕ) (x : A) → slice_get xs j ≡ Some x → (y : B) × (make x ≡ Some y))
    → (i : ℕ) (x : A) (y : B) → slice_get xs i ≡ Some x → make x ≡ Some y → slice_get (filter_map make xs) i ≡ Some y
all-made-at make [] h i x y e g = absurd (none-some x e)
all-made-at make (z ∷ xs) h zero x y e g =
    let own : make z ≡ Some y = ap make (same_Some z x e) ∙ g in ap (λ o. slice_get (cons_option o (filter_map make xs)) 0) own
all-made-at make (z ∷ xs) h (suc i) x y e g =
    let here = h 0 z refl in
    ap (λ o. slice_get (cons_option o (filter_map make xs)) (suc i)) here.1 ∙ all-made-at make xs (λ j u k. h (suc j) u k) i x y e g

module _ (f : Flat) (o : List ℕ) (order : IsOrder f o) where
  abbrev pub n : ℕ
  n = length f.threads

  abbrev pub ps : List ℕ
  ps = priorities_by f o

  pub long : length o ≡ n
  long = order-long n o order

  pub priorities-long : length ps ≡ n
  priorities-long = length-map (range_with_len 0 n) (priority_in o) ∙ length-range_with_len 0 n

  pub priority-of : (i k : ℕ) → slice_get o i ≡ Some k → priority_in o k + i ≡ n
  priority-of i k e = priority-place o (order-once n o order) i k e ∙ long

  pub priority-at : (k : ℕ) → k < n → slice_get ps k ≡ Some (priority_in o k)
  priority-at k h =
      let z : 0 + k ≡ k = omega arith in
      map-at (priority_in o) (range_with_len 0 n) k k (range-at 0 n k h ∙ ap Some z)

  pub at-priority : (k p : ℕ) → slice_get ps k ≡ Some p → (k < n) × (priority_in o k ≡ p)
  at-priority k p e =
      let inside : k < length ps = slice_get_within ps k p e in
      let less : k < n = (let q = priorities-long in omega (arith, inside, q)) in
      (less, same_Some (priority_in o k) p (sym (priority-at k less) ∙ e))

  pub priorities-once : AtOnce ps
  priorities-once i j p e g =
      let a = at-priority i p e in
      let b = at-priority j p g in
      let x = order-has n o order i a.0 in
      let y = order-has n o order j b.0 in
      let same : x.0 ≡ y.0 = (let u = priority-of x.0 i x.1 in let v = priority-of y.0 j y.1 in omega (arith, u, v, a.1, b.1)) in
      same_Some i j (sym x.1 ∙ ap (slice_get o) same ∙ y.1)

  -- the places by priority are the order
  pub places-are : places_by_priority ps ≡ o
  places-are =
      let same : length ps ≡ length o = priorities-long ∙ sym long in
      ap (λ m. filter_map (λ p. position (λ q. q == p) ps) (downwards m)) same ∙ down-is (λ p. position (λ q. q == p) ps) o each
    where
      each : (j x : ℕ) → slice_get o j ≡ Some x → position (λ q. q == (length o - j)) ps ≡ Some x
      each j x e =
          let less = order-within n o order j x e in
          let is : priority_in o x ≡ length o - j = (let a = priority-of j x e in let b = long in omega (arith, a, b)) in
          position-is ps (length o - j) x priorities-once (priority-at x less ∙ ap Some is)

  pub row-made : (i k : ℕ) (t : Thread) → slice_get o i ≡ Some k → slice_get f.threads k ≡ Some t → row_at f ps k ≡ Some (row_of f ps t (priority_in o k))
  row-made i k t e at =
      ap (λ x. option_and_then (λ t. option_map (row_of f ps t) (slice_get ps k)) x) at
      ∙ ap (option_map (row_of f ps t)) (priority-at k (order-within n o order i k e))

  all-rows : (j k : ℕ) → slice_get o j ≡ Some k → (r : ThreadRow) × (row_at f ps k ≡ Some r)
  all-rows j k e =
      let t = has-at f.threads k (order-within n o order j k e) in
      (row_of f ps t.0 (priority_in o k), row-made j k t.0 e t.1)

  pub rows-are : rows_by f o ≡ filter_map (row_at f ps) o
  rows-are = ap (filter_map (row_at f ps)) places-are

  pub rows-long : length (rows_by f o) ≡ n
  rows-long = ap length rows-are ∙ all-made-long (row_at f ps) o all-rows ∙ long

  pub rows-at : (i k : ℕ) (t : Thread) → slice_get o i ≡ Some k → slice_get f.threads k ≡ Some t
      → slice_get (rows_by f o) i ≡ Some (row_of f ps t (priority_in o k))
  rows-at i k t e at =
      ap (λ rs. slice_get rs i) rows-are
      ∙ all-made-at (row_at f ps) o all-rows i k (row_of f ps t (priority_in o k)) e (row-made i k t e at)

  -- the thread at a place of the order
  pub thread-of : (i : ℕ) → i < n → (k : ℕ) × (t : Thread) × (slice_get o i ≡ Some k) × (slice_get f.threads k ≡ Some t)
  thread-of i h =
      let k = has-at o i (let q = long in omega (arith, h, q)) in
      let t = has-at f.threads k.0 (order-within n o order i k.0 k.1) in
      (k.0, t.0, k.1, t.1)
