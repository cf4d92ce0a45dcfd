-- A worked schedule: a thread of lower priority is in the way for a tick, and the activation uses the two after it.
use Rattle.std.specs.Prelude.{◌≡◌, ℕ, zero, suc, ◌-◌, ◌≤◌, ◌<◌, Bool, true, false, not, List, [], ◌∷◌, length, filter, take, drop, cond}
use Rattle.std.specs.Prelude.{slice_get, option_map, Some, None, pos, ◌+ℤ◌, ◌≤ℤ◌, refl}
use Rattle.std.proofs.Common.{arith, subst, lit≤, le_trans, zero-le}
use Rattle.std.proofs.lemmas.Int.{ints}
use Rattle.rt_response.specs.declared.rows.ThreadRow.{ThreadRow}
use Rattle.rt_response.specs.declared.rows.Bound.{Bound}
use Rattle.rt_response.specs.Tables.{Each, IsTable}
use Rattle.rt_response.specs.Response.{Fits}
use Rattle.law_schedules.specs.Schedules.{Activation, Schedule, ticks_of, is_of_level, others, IsAt, IsSchedule}

abbrev row : ThreadRow
row = record { period = 4; deadline = 4; jitter = 1; cost = 2; block = 1; starter = None }

abbrev bound : Bound
bound = record { jitter = 1; response = 3 }

abbrev act : Activation
act = record { row = 0; nominal = pos 0; release = 0; need = 2; end = Some 3 }

abbrev blocked : Schedule
blocked = record { activations = act ∷ []; ticks = None ∷ Some 0 ∷ Some 0 ∷ [] }

-- what holds of the only element holds of each
only : {A : Type 0} (P : ℕ → A → Type 0) (x : A) → P 0 x → (k : ℕ) (y : A) → slice_get (x ∷ []) k ≡ Some y → P k y
only P x h zero y e = let is : x ≡ y = cc in subst (P 0) is h
only P x h (suc k) y e = cc

filter-take : {A : Type 0} (test : A → Bool) (n : ℕ) (xs : List A) → length (filter test (take n xs)) ≤ length (filter test xs)
filter-take test zero [] = zero-le
filter-take test zero (x ∷ xs) = zero-le
filter-take test (suc n) [] = zero-le
filter-take {A = A} test (suc n) (x ∷ xs) = go (test x) (filter test (take n xs)) (filter test xs) (filter-take test n xs)
  where
    go : (b : Bool) (ys zs : List A) → length ys ≤ length zs → length (cond b (x ∷ ys) ys) ≤ length (cond b (x ∷ zs) zs)
    go true ys zs h = omega arith
    go false ys zs h = h

filter-drop : {A : Type 0} (test : A → Bool) (n : ℕ) (xs : List A) → length (filter test (drop n xs)) ≤ length (filter test xs)
filter-drop test zero [] = zero-le
filter-drop test zero (x ∷ xs) = omega arith
filter-drop test (suc n) [] = zero-le
filter-drop {A = A} test (suc n) (x ∷ xs) = go (test x) (filter test xs) (filter-drop test n xs)
  where
    go : (b : Bool) (ys : List A) → length (filter test (drop n xs)) ≤ length ys → length (filter test (drop n xs)) ≤ length (cond b (x ∷ ys) ys)
    go true ys h = omega arith
    go false ys h = h

-- its table
blocked-table : IsTable (row ∷ [])
blocked-table = record {
  count = lit≤ tt;
  each = (
    record {
      asks = lit≤ tt;
      before_next = lit≤ tt;
      period = lit≤ tt;
      works = lit≤ tt;
      cost = lit≤ tt;
      block = lit≤ tt;
      jitter = lit≤ tt;
      starter = tt;
    },
    tt,
  );
}

-- its vector
blocked-fits : Fits (row ∷ []) (bound ∷ [])
blocked-fits = ((refl, ((lit≤ tt, lit≤ tt), tt)), ((lit≤ tt, lit≤ tt), tt))

-- it is a schedule
blocked-schedule : IsSchedule (row ∷ []) (bound ∷ []) blocked
blocked-schedule = record {
  within = only (λ k a. (a.row < 1) × (a.release ≤ 3)) act (omega arith, zero-le);
  needs = λ k a r b at. let is : row ≡ r = asked k a r b at in subst (λ q. (1 ≤ a.need)
      × (a.need ≤ q.cost)) is (only (λ j c. (1 ≤ c.need) × (c.need ≤ 2)) act (lit≤ tt, lit≤ tt) k a at.stands);
  uses = only (λ k a. (length (ticks_of k blocked.ticks) ≤ a.need) × Each (λ t. a.release ≤ t) (ticks_of k blocked.ticks)
      × (a.end ≡ option_map suc (slice_get (ticks_of k blocked.ticks) (a.need - 1)))) act (lit≤ tt, (zero-le, (zero-le, tt)), refl);
  separate = λ k l a c r b at_a at_c differ same. absurd (differ (first k a at_a.stands l c at_c.stands));
  jitters = λ t h on_time k a r b at released.
      let is : bound ≡ b = only (λ j c. bound ≡ c) bound refl a.row b at.gets in
      subst (λ c. (a.nominal ≤ℤ pos a.release) × (pos a.release ≤ℤ (a.nominal +ℤ pos c.jitter))) is
      (only (λ j c. (c.nominal ≤ℤ pos c.release) × (pos c.release ≤ℤ (c.nominal +ℤ pos 1))) act
      (omega (arith, ints), omega (arith, ints)) k a at.stands);
  blocks = λ i r first last asks start h near pending.
      only (λ j q. others blocked j first last ≤ q.block) row
      (le_trans (filter-take (λ t. not (is_of_level blocked.activations 0 t)) (suc last - first) (drop first blocked.ticks))
      (le_trans (filter-drop (λ t. not (is_of_level blocked.activations 0 t)) first blocked.ticks) (lit≤ tt)))
      i r asks;
}
  where
    asked : (k : ℕ) (a : Activation) (r : ThreadRow) (b : Bound) → IsAt (row ∷ []) (bound ∷ []) blocked k a r b → row ≡ r
    asked k a r b at = only (λ j q. row ≡ q) row refl a.row r at.asks

    first : (k : ℕ) (a : Activation) → slice_get (act ∷ []) k ≡ Some a → (l : ℕ) (c : Activation) → slice_get (act ∷ []) l ≡ Some c → k ≡ l
    first zero a e zero c f = refl
    first zero a e (suc l) c f = cc
    first (suc k) a e l c f = cc
