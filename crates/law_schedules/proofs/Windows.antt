-- A level that is pending through a window of its response time from a start on is over at the window's end.
use Rattle.std.specs.Prelude.{◌≡◌, ◌⊎◌, ℕ, suc, ◌+◌, ◌-◌, ◌≤◌, ◌<◌, Bool, true, false, List, [], ◌∷◌, length, take, drop, slice_get, Option}
use Rattle.std.specs.Prelude.{Some, None, option_map, nat_le, nat_lt, refl}
use Rattle.std.proofs.Common.{sym, ◌∙◌, ap, arith, inl, inr, zero-le, zero-add}
use Rattle.rt_response.specs.declared.rows.ThreadRow.{ThreadRow}
use Rattle.rt_response.specs.declared.rows.Bound.{Bound}
use Rattle.rt_response.specs.Tables.{Each, IsTable}
use Rattle.rt_response.specs.Response.{Fits}
use Rattle.law_schedules.specs.Schedules.{Activation, Schedule, ticks_of, is_over, others, IsOverBy, IsStart, IsSchedule}
use Rattle.law_schedules.proofs.Ticks.{used, used-count, over-used, used-over, used-before, used-window, used-front}
use Rattle.law_schedules.proofs.Sums.{when, sum_of, sum_from, sum_from-lt}
use Rattle.law_schedules.proofs.Levels.{level_used, cost_at, selected_cost}
use Rattle.law_schedules.proofs.Counts.{each-get, in_window, IsReady}
use Rattle.law_schedules.proofs.Shared.Equations.{has-at, level_entries, level-at}

-- an end that is there by a time is there later too
pub over-later : (end : Option ℕ) (t u : ℕ) → t ≤ u → is_over end t ≡ true → is_over end u ≡ true
over-later None t u h e = cc
over-later (Some x) t u h e = grind arith

-- an activation of a level that was released before a time and isn't over then
pub record IsLate (acts : List Activation) (i t : ℕ) : Type 0 where
  pub place : ℕ
  pub act : Activation
  pub stands : slice_get acts place ≡ Some act
  pub low : act.row ≤ i
  pub before : act.release < t
  pub late : is_over act.end t ≡ false

-- a time is a start of a level, or some activation is late
pub start-or-late : (acts : List Activation) (i t : ℕ) → Each (IsOverBy i t) acts ⊎ IsLate acts i t
start-or-late [] i t = inl tt
start-or-late (a ∷ acts) i t =
    go (nat_le a.row i) (nat_lt a.release t) (is_over a.end t) refl refl refl (start-or-late acts i t)
  where
    more : IsOverBy i t a → Each (IsOverBy i t) acts ⊎ IsLate acts i t
        → Each (IsOverBy i t) (a ∷ acts) ⊎ IsLate (a ∷ acts) i t
    more first (inl others) = inl (first, others)
    more first (inr late) = inr (record {
      place = suc late.place;
      act = late.act;
      stands = late.stands;
      low = late.low;
      before = late.before;
      late = late.late;
    })

    go : (p q r : Bool) → nat_le a.row i ≡ p → nat_lt a.release t ≡ q → is_over a.end t ≡ r
        → Each (IsOverBy i t) acts ⊎ IsLate acts i t
        → Each (IsOverBy i t) (a ∷ acts) ⊎ IsLate (a ∷ acts) i t
    go true true false hp hq hr rest = inr (record { place = 0; act = a; stands = refl; low = grind arith; before = grind arith; late = hr })
    go p q true hp hq hr rest = more (λ low before. hr) rest
    go false q false hp hq hr rest = more (λ low before. absurd (grind arith)) rest
    go true false false hp hq hr rest = more (λ low before. absurd (grind arith)) rest

-- the ticks that an activation of a schedule uses up to each time
record IsUse (a : Activation) (count : ℕ → ℕ) : Type 0 where
  most : (n : ℕ) → count n ≤ a.need
  before : (n : ℕ) → n ≤ a.release → count n ≡ 0
  over : (n : ℕ) → is_over a.end n ≡ true → a.need ≤ count n
  late : (n : ℕ) → is_over a.end n ≡ false → count n < a.need

use-of : (rows : List ThreadRow) (v : List Bound) (s : Schedule) (k : ℕ) (a : Activation) → IsSchedule rows v s → slice_get s.activations k ≡ Some a
    → 1 ≤ a.need
    → IsUse a (λ n. used k (take n s.ticks))
use-of rows v s k a schedule stands needs =
    let uses = schedule.uses k a stands in
    let fewer : length (ticks_of k s.ticks) ≤ a.need = uses.0 in
    record {
      most = λ n. omega (arith, fewer, used-count 0 k s.ticks, used-front k n s.ticks);
      before = λ n h. used-before 0 k n a.release s.ticks uses.1 (omega arith);
      over = λ n h. let used_so : a.need - 1 < used k (take n s.ticks)
          = over-used 0 k (a.need - 1) n n s.ticks (omega arith) (ap (λ e. is_over e n) (sym uses.2) ∙ h) in omega arith;
      late = λ n h. go n h (nat_lt (used k (take n s.ticks)) a.need) refl uses.2;
    }
  where
    go : (n : ℕ) → is_over a.end n ≡ false → (b : Bool) → nat_lt (used k (take n s.ticks)) a.need ≡ b
        → a.end ≡ option_map suc (slice_get (ticks_of k s.ticks) (a.need - 1)) → used k (take n s.ticks) < a.need
    go n h true hb e = grind arith
    go n h false hb e =
        let enough : a.need - 1 < used k (take n s.ticks) = grind arith in
        let over = ap (λ x. is_over x n) e ∙ used-over 0 k (a.need - 1) n n s.ticks (omega arith) enough in
        cc

-- what an activation uses of a window is at most its cost, and less where it is late then
record IsShare (low w cost : ℕ) (a : Activation) (share : ℕ) : Type 0 where
  most : share ≤ when (in_window low w a) cost
  late : a.release < low + w → is_over a.end (low + w) ≡ false → share < when (in_window low w a) cost

share-of : (low w cost share : ℕ) (a : Activation) (count : ℕ → ℕ) → IsUse a count → count low + share ≡ count (low + w) → 1 ≤ a.need → a.need ≤ cost
    → (a.release < low → is_over a.end low ≡ true) → IsShare low w cost a share
share-of low w cost share a count usage window least costs started =
    go (nat_le low a.release) (nat_lt a.release (low + w)) refl refl
  where
    most : count (low + w) ≤ a.need
    most = usage.most (low + w)

    early : a.release < low → share ≡ 0
    early h = let over : a.need ≤ count low = usage.over low (started h) in omega (arith, most)

    go : (x y : Bool) → nat_le low a.release ≡ x → nat_lt a.release (low + w) ≡ y → IsShare low w cost a share
    go true true hx hy =
        let window_is : in_window low w a ≡ true = rw (hx, hy) refl in
        record {
          most = rw (hx, hy) (omega (arith, most));
          late = λ before over. let less : count (low + w) < a.need = usage.late (low + w) over in rw (hx, hy) (omega arith);
        }
    go true false hx hy =
        let past : low + w ≤ a.release = grind arith in
        let none : count (low + w) ≡ 0 = usage.before (low + w) past in
        record { most = rw (hx, hy) (omega arith); late = λ before over. absurd (omega arith) }
    go false y hx hy =
        let before_low : a.release < low = grind arith in
        let none : share ≡ 0 = early before_low in
        record {
          most = rw hx (omega arith);
          late = λ before over. let done = over-later a.end low (low + w) (omega arith) (started before_low) in cc;
        }

-- a window of a level's response time from a start on
pub record IsWindow (rows : List ThreadRow) (v : List Bound) (s : Schedule) (t i low : ℕ) (row : ThreadRow) (b : Bound) : Type 0 where
  pub table : IsTable rows
  pub fits : Fits rows v
  pub ready : IsReady rows v s t
  pub asks : slice_get rows i ≡ Some row
  pub gets : slice_get v i ≡ Some b
  pub start : IsStart s i low
  pub by : low + b.response ≤ suc t

-- what an activation of the level uses of it
level-share : (rows : List ThreadRow) (v : List Bound) (s : Schedule) (t i low : ℕ) (row : ThreadRow) (b : Bound) (k : ℕ) (a : Activation)
    → IsWindow rows v s t i low row b
    → slice_get s.activations k ≡ Some a → a.row ≤ i
    → IsShare low b.response (cost_at (slice_get (level_entries rows v i row b) a.row)) a (used k (take b.response (drop low s.ticks)))
level-share rows v s t i low row b k a window stands of_level =
    let schedule = window.ready.schedule in
    let inside = (schedule.within k a stands).0 in
    let own_row = has-at rows a.row inside in
    let inside_v : a.row < length v = omega (arith, inside, window.fits.0.0) in
    let own_bound = has-at v a.row inside_v in
    let needs = schedule.needs k a own_row.0 own_bound.0 (record { stands = stands; asks = own_row.1; gets = own_bound.1 }) in
    let entry = level-at rows v i a.row row own_row.0 b own_bound.0 window.asks window.gets of_level own_row.1 own_bound.1 in
    let costs : a.need ≤ cost_at (slice_get (level_entries rows v i row b) a.row) = rw entry needs.1 in
    share-of low b.response (cost_at (slice_get (level_entries rows v i row b) a.row)) (used k (take b.response (drop low s.ticks))) a
    (λ n. used k (take n s.ticks))
    (use-of rows v s k a schedule stands needs.0) (used-window k low b.response (low + b.response) s.ticks refl) needs.0 costs
    (λ before. each-get (IsOverBy i low) s.activations k a window.start stands of_level before)

pub level-less : (rows : List ThreadRow) (v : List Bound) (s : Schedule) (t i low : ℕ) (row : ThreadRow) (b : Bound) → IsWindow rows v s t i low row b
    → IsLate s.activations i (low + b.response)
    → sum_from 0 (level_used i (take b.response (drop low s.ticks))) s.activations
    < sum_of (selected_cost (in_window low b.response) (level_entries rows v i row b)) s.activations
level-less rows v s t i low row b window late =
    sum_from-lt (level_used i (take b.response (drop low s.ticks))) (selected_cost (in_window low b.response) (level_entries rows v i row b))
    s.activations 0 late.place late.act
    (λ j k a same stands. part k a (let is : j ≡ k = omega arith in rw is at stands) (nat_le a.row i) refl)
    late.stands
    (let is : nat_le late.act.row i ≡ true = let low_row : late.act.row ≤ i = late.low in grind arith in
    rw (is, zero-add) ((level-share rows v s t i low row b late.place late.act window late.stands late.low).late late.before late.late))
  where
    part : (k : ℕ) (a : Activation) → slice_get s.activations k ≡ Some a → (x : Bool) → nat_le a.row i ≡ x
        → when x (used k (take b.response (drop low s.ticks))) ≤ when (in_window low b.response a)
        (cost_at (slice_get (level_entries rows v i row b) a.row))
    part k a stands false h = zero-le
    part k a stands true h = (level-share rows v s t i low row b k a window stands (grind arith)).most
