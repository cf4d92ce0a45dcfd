-- In a sound flat design a thread can request a sporadic one exactly where its row is the starter of the other's: so what clients can request
-- is read off the table.
use Rattle.std.specs.Prelude.{◌≡◌, ◌↔◌, ℕ, zero, suc, ◌-◌, ◌<◌, ◌==◌, Bool, true, false, cond, nat_lt, nat_le, List, [], ◌∷◌, filter, length}
use Rattle.std.specs.Prelude.{position, get_or, slice_get, Option, Some, None, option_map, option_and_then, refl, if◌then◌else◌}
use Rattle.std.specs.List.{list_all, position_or_len}
use Rattle.std.proofs.Common.{sym, ◌∙◌, ap, arith}
use Rattle.std.proofs.lemmas.List.Sums.{position_or_len_is}
use Rattle.std.proofs.lemmas.List.Quantifiers.{position-Some}
use Rattle.std.proofs.lemmas.Bool.{both_ways, and_parts}
use Rattle.std.proofs.lemmas.Option.{slice_get-get_or, slice_get_within, get_or_from_slice_get, same_Some, none-some}
use Rattle.ods_tree.specs.Flats.{Timing, Cyclic, Sporadic, Thread, Flat}
use Rattle.ods_tree.specs.Services.{flat_services}
use Rattle.analysis.specs.Sound.{IsSound, is_started}
use Rattle.analysis.specs.Starts.{can_request, starters, start_count}
use Rattle.analysis.specs.Priorities.{priorities_of}
use Rattle.analysis.specs.Tables.{starter_of}
use Rattle.law_designs.proofs.Shared.Lists.{all-in}
use Rattle.law_designs.proofs.Shared.TabledPrograms.{in-range, alone}
use Rattle.law_lists.proofs.Shared.Lists.{IsIn, at-in, filter-in}
use Rattle.background_designs.specs.Misfits.{is_sporadic}

none-passes : {A : Type 0} (test : A → Bool) (xs : List A) → length (filter test xs) ≡ 0 → (j : ℕ) (y : A) → slice_get xs j ≡ Some y
    → test y ≡ true → ⊥
none-passes {A} test xs h j y e passes = by (filter test xs) h (filter-in test y xs (at-in xs j y e) passes)
  where
    by : (ys : List A) → length ys ≡ 0 → IsIn y ys → ⊥
    by [] g k = k
    by (z ∷ zs) g k = omega (arith, g)

-- where one item passes a test, two places of such items are one
one-place : {A : Type 0} (test : A → Bool) (xs : List A) → length (filter test xs) ≡ 1 → (i j : ℕ) (x y : A) → slice_get xs i ≡ Some x
    → test x ≡ true → slice_get xs j ≡ Some y → test y ≡ true → i ≡ j
one-place test [] h i j x y e p g q = absurd (none-some x e)
one-place {A} test (z ∷ zs) h i j x y e p g q = by (test z) refl h i j e g (λ k i' j' e' g'. one-place test zs k i' j' x y e' p g' q)
  where
    by : (b : Bool) → test z ≡ b → length (if b then z ∷ filter test zs else filter test zs) ≡ 1 → (i j : ℕ) → slice_get (z ∷ zs) i ≡ Some x
        → slice_get (z ∷ zs) j ≡ Some y
        → (length (filter test zs) ≡ 1 → (i' j' : ℕ) → slice_get zs i' ≡ Some x → slice_get zs j' ≡ Some y → i' ≡ j') → i ≡ j
    by true t k zero zero e g rest = refl
    by true t k zero (suc j) e g rest = absurd (none-passes test zs (omega (arith, k)) j y g q)
    by true t k (suc i) j e g rest = absurd (none-passes test zs (omega (arith, k)) i x e p)
    by false t k zero j e g rest = absurd (both_ways (test z) t (ap test (same_Some z x e) ∙ p))
    by false t k (suc i) zero e g rest = absurd (both_ways (test z) t (ap test (same_Some z y g) ∙ q))
    by false t k (suc i) (suc j) e g rest = ap suc (rest k i j e g)

-- such an item is found there
found-there : {A : Type 0} (test : A → Bool) (xs : List A) (at : ℕ) (t : A) → slice_get xs at ≡ Some t → test t ≡ true
    → ((j : ℕ) (y : A) → slice_get xs j ≡ Some y → test y ≡ true → j ≡ at) → position test xs ≡ Some at
found-there test xs at t stands passes only =
    let inside : at < length xs = slice_get_within xs at t stands in
    let first : position_or_len test xs ≡ at
    = position_or_len_is test xs at t (omega (arith, inside)) (λ k less. before k less inside)
    (λ less. ap test (get_or_from_slice_get xs at t t stands) ∙ passes) in
    ap (λ n. cond (nat_lt n (length xs)) (Some n) None) first ∙ found inside
  where
    before : (k : ℕ) → k < at → at < length xs → test (get_or xs k t) ≡ false
    before k less inside = go (test (get_or xs k t)) refl
      where
        go : (b : Bool) → test (get_or xs k t) ≡ b → b ≡ false
        go false e = refl
        go true e = absurd (omega (arith, less, only k (get_or xs k t) (slice_get-get_or xs k t (omega (arith, less, inside))) e))

    found : at < length xs → cond (nat_lt at (length xs)) (Some at) None ≡ Some at
    found inside = go (nat_lt at (length xs)) refl
      where
        go : (b : Bool) → nat_lt at (length xs) ≡ b → cond b (Some at) None ≡ Some at
        go true g = refl
        go false g = absurd (clash g)
          where
            clash : nat_lt at (length xs) ≡ false → ⊥
            clash g = grind (arith, inside)

module _ (f : Flat) (sound : IsSound f) (at q : ℕ) (t s : Thread) (stands : slice_get f.threads at ≡ Some t)
    (ranked : slice_get (priorities_of f) at ≡ Some q) where
  abbrev ps : List ℕ
  ps = priorities_of f

  abbrev requests : Thread → Bool
  requests u = can_request (flat_services f) s.name u.block

  is-zero : (n : ℕ) → (n == 0) ≡ true → n ≡ 0
  is-zero n h = grind arith

  is-one : (n : ℕ) → (n == 1) ≡ true → n ≡ 1
  is-one n h = grind arith

  forth : (z : Timing) → is_sporadic z ≡ true → is_started f s.name z ≡ true → requests t ≡ true
      → starter_of f ps s.name z ≡ Some (length ps - q)
  forth (Cyclic period offset) k h can = cc
  forth (Sporadic op separation (Some jitter)) k h can =
      absurd (none-passes requests f.threads (is-zero (length (starters (flat_services f) s.name f.threads)) h) at t stands can)
  forth (Sporadic op separation None) k h can =
      let one = is-one (length (starters (flat_services f) s.name f.threads))
      (and_parts (length (starters (flat_services f) s.name f.threads) == 1)
      (list_all (λ u. nat_le (start_count (flat_services f) s.name op u) 1) (starters (flat_services f) s.name f.threads)) h).0 in
      ap (option_and_then (λ a. option_map (λ p. length ps - p) (slice_get ps a)))
      (found-there requests f.threads at t stands can (λ j y e g. one-place requests f.threads one j at y t e g stands can))
      ∙ ap (option_map (λ p. length ps - p)) ranked

  back : (z : Timing) → starter_of f ps s.name z ≡ Some (length ps - q) → requests t ≡ true
  back (Cyclic period offset) h = absurd (none-some (length ps - q) h)
  back (Sporadic op separation (Some jitter)) h = absurd (none-some (length ps - q) h)
  back (Sporadic op separation None) h = place (position requests f.threads) refl h
    where
      place : (o : Option ℕ) → position requests f.threads ≡ o
          → option_and_then (λ a. option_map (λ p. length ps - p) (slice_get ps a)) o ≡ Some (length ps - q) → requests t ≡ true
      place None e g = absurd (none-some (length ps - q) g)
      place (Some a) e g = priority (slice_get ps a) refl g
        where
          priority : (o : Option ℕ) → slice_get ps a ≡ o → option_map (λ p. length ps - p) o ≡ Some (length ps - q) → requests t ≡ true
          priority None w g' = absurd (none-some (length ps - q) g')
          priority (Some p) w g' =
              let same = same_Some (length ps - p) (length ps - q) g' in
              let x = in-range f 1 a p w in
              let y = in-range f 1 at q ranked in
              let equal : p ≡ q = omega (arith, same, x.1, y.1) in
              let here : a ≡ at = alone f 1 a at q (w ∙ ap Some equal) ranked in
              let found = position-Some requests f.threads a t e in
              let is : get_or f.threads a t ≡ t
              = same_Some (get_or f.threads a t) t (sym (slice_get-get_or f.threads a t found.0) ∙ ap (slice_get f.threads) here ∙ stands) in
              ap requests (sym is) ∙ found.1

-- a thread can request a sporadic one exactly where its row is the other's starter
pub requests-by-rows : (f : Flat) → IsSound f → (at q k : ℕ) (t s : Thread) → slice_get f.threads at ≡ Some t → slice_get (priorities_of f) at
    ≡ Some q
    → slice_get f.threads k ≡ Some s → is_sporadic s.timing ≡ true
    → (can_request (flat_services f) s.name t.block ≡ true) ↔ (starter_of f (priorities_of f) s.name s.timing ≡ Some (length (priorities_of f) - q))
requests-by-rows f sound at q k t s stands ranked there sporadic = (
  forth f sound at q t s stands ranked s.timing sporadic
      (all-in (λ u. is_started f u.name u.timing) f.threads s sound.started (at-in f.threads k s there)),
  back f sound at q t s stands ranked s.timing,
)
