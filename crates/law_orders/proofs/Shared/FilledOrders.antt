-- Two orders that are filled from their lowest places have the same thread at each filled place, and the same threads left.
use Rattle.std.specs.Prelude.{◌≡◌, ◌⊎◌, ℕ, zero, suc, ◌+◌, ◌-◌, ◌≤◌, ◌<◌, true, List, length, take, slice_get, Some, refl}
use Rattle.std.proofs.Common.{sym, ◌∙◌, ap, subst, arith, inl, inr}
use Rattle.std.proofs.lemmas.Bool.{cases_lt}
use Rattle.std.proofs.lemmas.Option.{same_Some, slice_get_within}
use Rattle.std.specs.Cmp.{both_ways}
use Rattle.ods_tree.specs.Flats.{Flat}
use Rattle.analysis.specs.Priorities.{priorities_of}
use Rattle.analysis.specs.Sound.{IsSound}
use Rattle.analysis.specs.Tables.{places_by_priority}
use Rattle.law_designs.proofs.Shared.Lists.{has-at}
use Rattle.law_orders.specs.Orders.{IsOrder, has_place, CanBeLast, IsLowest, IsFilledFrom, IsStuck}
use Rattle.law_orders.specs.Laws.{LeftThreadsAreOne}
use Rattle.law_orders.proofs.Shared.OrderPlaces.{order-long, order-within, order-has, order-once, place-stands, stands-place, take-at, at-take}
use Rattle.law_orders.proofs.Shared.DeadlineOrders.{deadline-order, priority-there}
use Rattle.law_orders.proofs.Shared.SamePlaces.{SamePlaces, last-same, lowest-same}

-- orders with the same thread at each place from here on
abbrev pub AgreeFrom : ℕ → List ℕ → List ℕ → Type 0
AgreeFrom i a b = (j x y : ℕ) → i ≤ j → slice_get a j ≡ Some x → slice_get b j ≡ Some y → x ≡ y

-- the threads in front of that place are among those of the other order
pub front-within : (n i : ℕ) (f : Flat) (a b : List ℕ) → n ≡ length f.threads → IsOrder f a → IsOrder f b → AgreeFrom i a b → (k : ℕ)
    → has_place (take i a) k ≡ true → has_place (take i b) k ≡ true
front-within n i f a b is order-a order-b agree k h =
    let r = place-stands (take i a) k h in
    let s = take-at i a r.0 k r.1 in
    let d = order-has (length f.threads) b order-b k (order-within (length f.threads) a order-a r.0 k s.1) in
    by s.0 s.1 d.0 d.1 (cases_lt d.0 i)
  where
    by : {r : ℕ} → r < i → slice_get a r ≡ Some k → (d : ℕ) → slice_get b d ≡ Some k → (d < i) ⊎ (i ≤ d) → has_place (take i b) k ≡ true
    by short e d g (inl low) = stands-place (take i b) d k (at-take i b d k low g)
    by {r} short e d g (inr high) =
        let inside = slice_get_within b d k g in
        let long-a = order-long (length f.threads) a order-a in
        let long-b = order-long (length f.threads) b order-b in
        let own = has-at a d (omega (arith, inside, long-a, long-b)) in
        let same : own.0 ≡ k = agree d own.0 k high own.1 g in
        let clash : d ≡ r = order-once (length f.threads) a order-a d r k (own.1 ∙ ap Some same) e in
        absurd (omega (arith, clash, short, high))

agree-back : (i : ℕ) (a b : List ℕ) → AgreeFrom i a b → AgreeFrom i b a
agree-back i a b agree j x y low e g = sym (agree j y x low g e)

pub front-same : (i : ℕ) (f : Flat) (a b : List ℕ) → IsOrder f a → IsOrder f b → AgreeFrom i a b → SamePlaces (take i a) (take i b)
front-same i f a b order-a order-b agree k =
    both_ways (has_place (take i a) k) (has_place (take i b) k) (front-within (length f.threads) i f a b refl order-a order-b agree k)
    (front-within (length f.threads) i f b a refl order-b order-a (agree-back i a b agree) k)

-- two threads of which each is the lowest of the same threads are one
lowest-one : (f : Flat) (these : List ℕ) (x y : ℕ) → x < length f.threads → y < length f.threads → IsLowest f these x → IsLowest f these y → x ≡ y
lowest-one f these x y within-x within-y lowest-x lowest-y =
    let dm : List ℕ = places_by_priority (priorities_of f) in
    let i = order-has (length f.threads) dm (deadline-order f) x within-x in
    let j = order-has (length f.threads) dm (deadline-order f) y within-y in
    let p = priority-there f i.0 x i.1 in
    let q = priority-there f j.0 y j.1 in
    let less = lowest-x.least y (length f.threads - i.0) (length f.threads - j.0) lowest-y.among lowest-y.last p.1 q.1 in
    let more = lowest-y.least x (length f.threads - j.0) (length f.threads - i.0) lowest-x.among lowest-x.last q.1 p.1 in
    let z : i.0 ≡ j.0 = (let a = p.0 in let b = q.0 in omega (arith, a, b, less, more)) in
    same_Some x y (sym i.1 ∙ ap (slice_get dm) z ∙ j.1)

module _ (f : Flat) (sound : IsSound f) (a b : List ℕ) (order-a : IsOrder f a) (order-b : IsOrder f b) where
  -- what is filled at a place that both have filled
  here-one : (i : ℕ) → AgreeFrom (suc i) a b → (x y : ℕ) → slice_get a i ≡ Some x → slice_get b i ≡ Some y → IsLowest f (take (suc i) a) x
      → IsLowest f (take (suc i) b) y → x ≡ y
  here-one i agree x y e g lowest-x lowest-y =
      lowest-one f (take (suc i) a) x y (order-within (length f.threads) a order-a i x e) (order-within (length f.threads) b order-b i y g) lowest-x
      (lowest-same f sound (take (suc i) b) (take (suc i) a) y (λ k. sym (front-same (suc i) f a b order-a order-b agree k)) lowest-y)

  -- orders that are filled from a place on agree there
  pub filled-agree : (m d i : ℕ) → d + i ≡ length f.threads → m ≤ i → IsFilledFrom f m a → IsFilledFrom f m b → AgreeFrom i a b
  filled-agree m zero i e low filled-a filled-b j x y from g h =
      absurd (let q = slice_get_within a j x g in let r = order-long (length f.threads) a order-a in omega (arith, e, from, q, r))
  filled-agree m (suc d) i e low filled-a filled-b j x y from g h =
      by (filled-agree m d (suc i) (omega (arith, e)) (omega (arith, low)) filled-a filled-b) (cases_lt i j)
    where
      by : AgreeFrom (suc i) a b → (i < j) ⊎ (j ≤ i) → x ≡ y
      by more (inl later) = more j x y (omega (arith, later)) g h
      by more (inr here) =
          let z : j ≡ i = omega (arith, here, from) in
          let e1 = ap (slice_get a) (sym z) ∙ g in
          let e2 = ap (slice_get b) (sym z) ∙ h in
          here-one i more x y e1 e2 (filled-a i x low e1) (filled-b i y low e2)

  -- where fewer threads are left of one, the other could have filled one more place
  more-left : (i j : ℕ) → IsStuck f a i → IsStuck f b j → i < j → ⊥
  more-left i j stuck-a stuck-b less =
      let agree = agreed in
      let own = has-at a last (let q = stuck-b.within in let r = order-long (length f.threads) a order-a in
      let s = order-long (length f.threads) b order-b in omega (arith, less, q, r, s, before)) in
      let lowest = stuck-a.filled last own.0 (omega (arith, less, before)) own.1 in
      let same = front-same j f a b order-a order-b agree in
      let there : has_place (take j a) own.0 ≡ true =
      stands-place (take j a) last own.0 (at-take j a last own.0 (omega (arith, before)) own.1) in
      stuck-b.none own.0 (sym (same own.0) ∙ there)
      (last-same f sound (take j a) (take j b) own.0 same there (subst (λ m. CanBeLast f (take m a) own.0) before lowest.last))
    where
      last : ℕ
      last = j - 1

      before : suc last ≡ j
      before = omega (arith, less)

      agreed : AgreeFrom j a b
      agreed =
          let long = order-long (length f.threads) b order-b in
          let within = stuck-b.within in
          filled-agree j (length f.threads - j) j (omega (arith, long, within)) (omega arith)
          (λ k own low e. stuck-a.filled k own (omega (arith, less, low)) e) stuck-b.filled

-- the threads left are the same
pub left-same : LeftThreadsAreOne
left-same f a b i j sound stuck-a stuck-b = by (cases_lt i j)
  where
    one : i ≡ j → SamePlaces (take i a) (take j b)
    one e =
        let long = order-long (length f.threads) a stuck-a.is_order in
        let within = stuck-a.within in
        let same = front-same i f a b stuck-a.is_order stuck-b.is_order
        (filled-agree f sound a b stuck-a.is_order stuck-b.is_order i (length f.threads - i) i (omega (arith, long, within)) (omega arith) stuck-a.filled
        (λ k own low g. stuck-b.filled k own (omega (arith, low, e)) g)) in
        subst (λ m. SamePlaces (take i a) (take m b)) e same

    by : (i < j) ⊎ (j ≤ i) → SamePlaces (take i a) (take j b)
    by (inl less) = absurd (more-left f sound a b stuck-a.is_order stuck-b.is_order i j stuck-a stuck-b less)
    by (inr most) = at-most (cases_lt j i)
      where
        at-most : (j < i) ⊎ (i ≤ j) → SamePlaces (take i a) (take j b)
        at-most (inl less) = absurd (more-left f sound b a stuck-b.is_order stuck-a.is_order j i stuck-b stuck-a less)
        at-most (inr all) = one (omega (arith, most, all))
