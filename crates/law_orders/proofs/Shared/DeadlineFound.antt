-- Where the deadline-monotonic order passes, each place that is filled from the lowest on goes to the thread that it has there.
use Rattle.std.specs.Prelude.{◌≡◌, ◌⊎◌, ℕ, zero, suc, ◌+◌, ◌-◌, ◌≤◌, ◌<◌, true, List, [], ◌∷◌, length, take, slice_get, Some, refl}
use Rattle.std.proofs.Common.{sym, ◌∙◌, ap, ap₂, arith, inl, inr}
use Rattle.std.proofs.lemmas.Bool.{cases_lt}
use Rattle.std.proofs.lemmas.Option.{same_Some, slice_get_within}
use Rattle.ods_tree.specs.Flats.{Flat}
use Rattle.analysis.specs.Priorities.{priorities_of}
use Rattle.analysis.specs.Sound.{IsSound}
use Rattle.analysis.specs.Tables.{places_by_priority}
use Rattle.law_designs.proofs.Shared.Lists.{has-at}
use Rattle.law_designs.proofs.Shared.TabledPrograms as tabled
use Rattle.law_orders.specs.Orders.{AllExternal, IsOrder, Passes, priority_in, priorities_by, has_place, CanBeLast, IsFilled}
use Rattle.law_orders.specs.Laws.{DeadlineOrdersAreFound}
use Rattle.law_orders.proofs.Shared.OrderPlaces.{order-long, order-within, order-has, order-once, place-stands, stands-place, take-at, at-take}
use Rattle.law_orders.proofs.Shared.OrderPlaces.{not-below}
use Rattle.law_orders.proofs.Shared.OrderRows.{priorities-long, priority-at, priority-of}
use Rattle.law_orders.proofs.Shared.Passing.{pass-lasts}
use Rattle.law_orders.proofs.Shared.Fewer.{fewer-above}
use Rattle.law_orders.proofs.Shared.DeadlineOrders.{deadline-order, priority-there}

-- lists of one length with the same items
pub lists-same : (xs ys : List ℕ) → length xs ≡ length ys → ((i x y : ℕ) → slice_get xs i ≡ Some x → slice_get ys i ≡ Some y → x ≡ y) → xs ≡ ys
lists-same [] [] h each = refl
lists-same [] (y ∷ ys) h each = absurd (omega (arith, h))
lists-same (x ∷ xs) [] h each = absurd (omega (arith, h))
lists-same (x ∷ xs) (y ∷ ys) h each =
    ap₂ (λ a b. a ∷ b) (each 0 x y refl refl) (lists-same xs ys (omega (arith, h)) (λ i a b e g. each (suc i) a b e g))

module _ (f : Flat) (sound : IsSound f) (external : AllExternal f) (passes : Passes f (places_by_priority (priorities_of f)))
    (o : List ℕ) (order : IsOrder f o) (filled : IsFilled f o) where
  abbrev n : ℕ
  n = length f.threads

  abbrev dm : List ℕ
  dm = places_by_priority (priorities_of f)

  dm-order : IsOrder f dm
  dm-order = deadline-order f

  -- the places from here on are the same
  SameFrom : ℕ → Type 0
  SameFrom i = (j x y : ℕ) → i ≤ j → slice_get o j ≡ Some x → slice_get dm j ≡ Some y → x ≡ y

  -- then those before are, as a set
  before-same : (i : ℕ) → i < n → ((j x y : ℕ) → suc i ≤ j → slice_get o j ≡ Some x → slice_get dm j ≡ Some y → x ≡ y) → (k : ℕ)
      → has_place (take (suc i) o) k ≡ true → has_place (take (suc i) dm) k ≡ true
  before-same i less same k h =
      let r = place-stands (take (suc i) o) k h in
      let s = take-at (suc i) o r.0 k r.1 in
      let d = order-has n dm dm-order k (order-within n o order r.0 k s.1) in
      by s.0 s.1 d.0 d.1 (cases_lt i d.0)
    where
      by : {r : ℕ} → r < suc i → slice_get o r ≡ Some k → (d : ℕ) → slice_get dm d ≡ Some k → (i < d) ⊎ (d ≤ i) → has_place (take (suc i) dm) k ≡ true
      by short e d g (inr low) = not-below dm i d k g low
      by {r} short e d g (inl high) =
          let inside = slice_get_within dm d k g in
          let all = order-long n dm dm-order in
          let own = has-at o d (let q = order-long n o order in omega (arith, inside, all, q)) in
          let is : own.0 ≡ k = same d own.0 k (omega (arith, high)) own.1 g in
          let clash : d ≡ r = order-once n o order d r k (own.1 ∙ ap Some is) e in
          absurd (omega (arith, clash, short, high))

  same-before : (i : ℕ) → i < n → ((j x y : ℕ) → suc i ≤ j → slice_get o j ≡ Some x → slice_get dm j ≡ Some y → x ≡ y) → (k : ℕ)
      → has_place (take (suc i) dm) k ≡ true → has_place (take (suc i) o) k ≡ true
  same-before i less same k h =
      let r = place-stands (take (suc i) dm) k h in
      let s = take-at (suc i) dm r.0 k r.1 in
      let d = order-has n o order k (order-within n dm dm-order r.0 k s.1) in
      by s.0 s.1 d.0 d.1 (cases_lt i d.0)
    where
      by : {r : ℕ} → r < suc i → slice_get dm r ≡ Some k → (d : ℕ) → slice_get o d ≡ Some k → (i < d) ⊎ (d ≤ i) → has_place (take (suc i) o) k ≡ true
      by short e d g (inr low) = not-below o i d k g low
      by {r} short e d g (inl high) =
          let inside = slice_get_within o d k g in
          let all = order-long n dm dm-order in
          let own = has-at dm d (let q = order-long n o order in omega (arith, inside, all, q)) in
          let is : k ≡ own.0 = same d k own.0 (omega (arith, high)) g own.1 in
          let clash : d ≡ r = order-once n dm dm-order d r k (own.1 ∙ ap Some (sym is)) e in
          absurd (omega (arith, clash, short, high))

  -- the thread at a place of the deadline-monotonic order is the lowest there
  here-same : (i : ℕ) → ((j x y : ℕ) → suc i ≤ j → slice_get o j ≡ Some x → slice_get dm j ≡ Some y → x ≡ y) → (x y : ℕ)
      → slice_get o i ≡ Some x → slice_get dm i ≡ Some y → x ≡ y
  here-same i same x y e g =
      let there = priority-there f i y g in
      let lowest = filled i x e in
      let in-dm : has_place (take (suc i) dm) x ≡ true = before-same i there.0 same x (stands-place (take (suc i) o) i x (at-take (suc i) o i x (omega arith) e)) in
      let r = place-stands (take (suc i) dm) x in-dm in
      let s = take-at (suc i) dm r.0 x r.1 in
      let own = priority-there f r.0 x s.1 in
      let y-in : has_place (take (suc i) o) y ≡ true = same-before i there.0 same y (stands-place (take (suc i) dm) i y (at-take (suc i) dm i y (omega arith) g)) in
      let y-last : CanBeLast f (take (suc i) o) y =
      fewer-above f (take (suc i) dm) (take (suc i) o) y sound y-in (before-same i there.0 same) (pass-lasts f sound external dm dm-order passes i y g) in
      let less : n - r.0 ≤ n - i = lowest.least y (n - r.0) (n - i) y-in y-last own.1 there.1 in
      let z : r.0 ≡ i = (let a = s.0 in let b = own.0 in let c = there.0 in omega (arith, a, b, c, less)) in
      same_Some x y (sym s.1 ∙ ap (slice_get dm) z ∙ g)

  all-same : (d i : ℕ) → d + i ≡ n → (j x y : ℕ) → i ≤ j → slice_get o j ≡ Some x → slice_get dm j ≡ Some y → x ≡ y
  all-same zero i e j x y low g h =
      absurd (let q = slice_get_within o j x g in let r = order-long n o order in omega (arith, e, low, q, r))
  all-same (suc d) i e j x y low g h =
      by (all-same d (suc i) (omega (arith, e))) (cases_lt i j)
    where
      by : ((j x y : ℕ) → suc i ≤ j → slice_get o j ≡ Some x → slice_get dm j ≡ Some y → x ≡ y) → (i < j) ⊎ (j ≤ i) → x ≡ y
      by more (inl later) = more j x y (omega (arith, later)) g h
      by more (inr here) =
          let z : j ≡ i = omega (arith, here, low) in
          here-same i more x y (ap (slice_get o) (sym z) ∙ g) (ap (slice_get dm) (sym z) ∙ h)

  order-found : o ≡ dm
  order-found = lists-same o dm (order-long n o order ∙ sym (order-long n dm dm-order)) (λ j x y e g.
      all-same n 0 (omega arith) j x y (omega arith) e g)

  priorities-found : priorities_by f o ≡ priorities_of f
  priorities-found = lists-same (priorities_by f o) (priorities_of f) (priorities-long f o order ∙ sym (tabled.long f 1)) (λ k x y e g.
      let less : k < n = (let a = slice_get_within (priorities_by f o) k x e in let b = priorities-long f o order in omega (arith, a, b)) in
      let i = order-has n o order k less in
      let one : priority_in o k ≡ x = same_Some (priority_in o k) x (sym (priority-at f o order k less) ∙ e) in
      let two = priority-of f o order i.0 k i.1 in
      let there = priority-there f i.0 k (ap (λ xs. slice_get xs i.0) (sym order-found) ∙ i.1) in
      let three : n - i.0 ≡ y = same_Some (n - i.0) y (sym there.1 ∙ g) in
      omega (arith, one, two, three))

-- where the deadline-monotonic order passes, it is found
pub deadline-found : DeadlineOrdersAreFound
deadline-found f o sound external passes order filled =
    (order-found f sound external passes o order filled, priorities-found f sound external passes o order filled)
