-- The schedule law, by induction on time: from each start of a level the next comes within the level's response time.
use Rattle.std.specs.Prelude.{◌≡◌, ◌⊎◌, ℕ, zero, suc, ◌+◌, ◌-◌, ◌*◌, ◌≤◌, ◌<◌, Bool, true, false, not, List, length, filter, take, drop, sum_by}
use Rattle.std.specs.Prelude.{slice_get, Option, Some, None, nat_le, nat_lt, refl}
use Rattle.std.specs.Int.{div_ceil}
use Rattle.std.proofs.Common.{arith, inl, inr, le_trans, zero-le, le_refl, mul-le-mul_right, length-drop}
use Rattle.std.proofs.lemmas.List.{length-take}
use Rattle.std.proofs.lemmas.Grind.{div_ceil_times}
use Rattle.std.proofs.Math.Nat.{lt_of_mul-lt-mul_right}
use Rattle.rt_response.specs.declared.rows.ThreadRow.{ThreadRow}
use Rattle.rt_response.specs.declared.rows.Bound.{Bound}
use Rattle.rt_response.specs.Tables.{Each, IsRow, IsTable}
use Rattle.rt_response.specs.Response.{Entry, interference, Fits}
use Rattle.law_schedules.specs.Schedules.{Activation, Schedule, is_over, is_of_level, horizon, IsAt, IsOverBy, IsPending, IsStart, AllOnTime}
use Rattle.law_schedules.specs.Schedules.{IsSchedule}
use Rattle.law_schedules.proofs.Sums.{sum_of}
use Rattle.law_schedules.proofs.Levels.{passing-or, level-ticks, work, selected_cost, selected, row_by_row, work-more, work-within}
use Rattle.law_schedules.proofs.Counts.{each-get, each-from, in_window, IsReady, row-count}
use Rattle.law_schedules.proofs.Shared.Equations.{entries_before, meets-response, fits-limits, before-count, before-at, level_entries}
use Rattle.law_schedules.proofs.Windows.{over-later, IsLate, start-or-late, IsWindow, level-less}

row-at : (rows : List ThreadRow) (i : ℕ) (row : ThreadRow) → IsTable rows → slice_get rows i ≡ Some row → IsRow (length rows) row
row-at rows i row table asks = each-get (IsRow (length rows)) rows i row table.each asks

row-positive : (rows : List ThreadRow) (i : ℕ) (row : ThreadRow) → IsTable rows → slice_get rows i ≡ Some row → 0 < row.period
row-positive rows i row table asks =
    let is = row-at rows i row table asks in
    let asks_some : 1 ≤ row.deadline = is.asks in
    let before : row.deadline ≤ row.period = is.before_next in
    omega arith

-- a response time is at least a tick
pub response-some : (rows : List ThreadRow) (v : List Bound) (i : ℕ) (row : ThreadRow) (b : Bound) → IsTable rows → Fits rows v
    → slice_get rows i ≡ Some row → slice_get v i ≡ Some b → 1 ≤ b.response
response-some rows v i row b table fits asks gets =
    let is = row-at rows i row table asks in
    let works : 1 ≤ row.cost = is.works in
    omega (arith, works, meets-response rows v i row b fits.0 asks gets)

-- a window within a period and its jitter has one release at most
ceil-one : (n m : ℕ) → 0 < m → n ≤ m → div_ceil n m ≤ 1
ceil-one n m p h =
    let close : div_ceil n m * m < 2 * m = omega (arith, (div_ceil_times n m p).1) in
    let less : div_ceil n m < 2 = lt_of_mul-lt-mul_right m close in
    omega arith

-- what a level uses of the window is at most what its equation allows, without its blocking
level-most : (rows : List ThreadRow) (v : List Bound) (s : Schedule) (t i low : ℕ) (row : ThreadRow) (b : Bound) → IsWindow rows v s t i low row b
    → sum_of (selected_cost (in_window low b.response) (level_entries rows v i row b)) s.activations
    ≤ row.cost + sum_by (interference b.response) (entries_before rows v i)
level-most rows v s t i low row b window =
    let count = selected (in_window low b.response) s.activations in
    let entries = entries_before rows v i in
    let positive : 0 < row.period = row-positive rows i row window.table window.asks in
    let limits = fits-limits rows v i row b window.fits window.asks window.gets in
    let reach : b.response + b.jitter ≤ row.period = let limit : b.jitter + b.response ≤ row.period = limits.1 in omega arith in
    let own : count i ≤ 1 = le_trans (row-count rows v s t i row b low b.response window.ready window.asks window.gets positive window.by)
    (ceil-one (b.response + b.jitter) row.period positive reach) in
    let own_cost : count i * row.cost ≤ 1 * row.cost = mul-le-mul_right row.cost own in
    let before : work count 0 entries ≤ sum_by (interference b.response) entries = work-within count b.response 0 entries each_before in
    let more : work count 0 (level_entries rows v i row b) ≡ work count 0 entries + count i * row.cost =
    work-more count 0 i entries (row, b) (let long : length entries ≡ i = before-count rows v i row b window.asks window.gets in omega arith) in
    omega (arith, row_by_row (in_window low b.response) (level_entries rows v i row b) s.activations)
  where
    each_before : (j k : ℕ) (e : Entry) → k ≡ 0 + j → slice_get (entries_before rows v i) j ≡ Some e
        → selected (in_window low b.response) s.activations k ≤ div_ceil (b.response + e.1.jitter) e.0.period
    each_before j k e same stands =
        let is : k ≡ j = omega arith in
        let parts = before-at rows v i j e stands in
        rw is (row-count rows v s t j e.0 e.1 low b.response window.ready parts.0 parts.1 (row-positive rows j e.0 window.table parts.0) window.by)

-- through a window at whose every tick the level is pending none of its activations is late
none-late : (rows : List ThreadRow) (v : List Bound) (s : Schedule) (t i low : ℕ) (row : ThreadRow) (b : Bound) → IsWindow rows v s t i low row b
    → 1 ≤ b.response
    → ((x : ℕ) → low ≤ x → x < low + b.response → IsPending s i x) → IsLate s.activations i (low + b.response) → ⊥
none-late rows v s t i low row b window least pending late =
    let ticks = take b.response (drop low s.ticks) in
    let level = is_of_level s.activations i in
    let by : low + b.response ≤ suc t = window.by in
    let near : t < length s.ticks = window.ready.near in
    let long : length ticks ≡ b.response = simp (length-take, length-drop) (omega arith) in
    let width : suc (low + b.response - 1) - low ≡ b.response = omega arith in
    let blocked = window.ready.schedule.blocks i row low (low + b.response - 1) window.asks window.start (omega arith) (omega arith)
    (λ x above below. pending x above (omega arith)) in
    let few : length (filter (λ o. not (level o)) ticks) ≤ row.block = rw width at blocked in
    let less = level-less rows v s t i low row b window late in
    let most = level-most rows v s t i low row b window in
    let equation = meets-response rows v i row b window.fits.0 window.asks window.gets in
    absurd (omega (arith, passing-or level ticks, level-ticks i s.activations ticks, less, most, equation))

-- a start of a level after one time and by another
pub record IsNext (s : Schedule) (i low high : ℕ) : Type 0 where
  pub time : ℕ
  pub after : low < time
  pub by : time ≤ high
  pub start : IsStart s i time

over-before : (end : Option ℕ) (t : ℕ) → is_over end (suc t) ≡ false → is_over end t ≡ false
over-before None t h = refl
over-before (Some x) t h = grind arith

-- within some ticks a start comes, or the level is pending at each
start-or-pending : (s : Schedule) (i low n : ℕ) → IsNext s i low (low + n) ⊎ ((x : ℕ) → low ≤ x → x < low + n → IsPending s i x)
start-or-pending s i low zero = inr (λ x above below. absurd (omega arith))
start-or-pending s i low (suc n) = step (start-or-pending s i low n) (start-or-late s.activations i (suc (low + n)))
  where
    here : IsLate s.activations i (suc (low + n)) → (x : ℕ) → x ≡ low + n → IsPending s i x
    here late x is =
        let same : suc (low + n) ≡ suc x = omega arith in
        let over = rw same at late.late in
        let before : late.act.release < suc (low + n) = late.before in (
          late.place,
          late.act,
          late.stands,
          late.low,
          (let released : late.act.release ≤ x = omega arith
              in released),
          over-before late.act.end x over,
        )

    step : IsNext s i low (low + n) ⊎ ((x : ℕ) → low ≤ x → x < low + n → IsPending s i x)
        → Each (IsOverBy i (suc (low + n))) s.activations ⊎ IsLate s.activations i (suc (low + n))
        → IsNext s i low (low + suc n) ⊎ ((x : ℕ) → low ≤ x → x < low + suc n → IsPending s i x)
    step (inl next) end = inl (record {
      time = next.time;
      after = next.after;
      by = let by : next.time ≤ low + n = next.by in omega arith;
      start = next.start;
    })
    step (inr pending) (inl start) = inl (record { time = suc (low + n); after = omega arith; by = omega arith; start = start })
    step (inr pending) (inr late) = inr (λ x above below. pick x above below (nat_lt x (low + n)) refl)
      where
        pick : (x : ℕ) → low ≤ x → x < low + suc n → (c : Bool) → nat_lt x (low + n) ≡ c → IsPending s i x
        pick x above below true hc = pending x above (grind arith)
        pick x above below false hc = here late x (grind arith)

-- from a start on the next comes within the response time
next-start : (rows : List ThreadRow) (v : List Bound) (s : Schedule) (t i low : ℕ) (row : ThreadRow) (b : Bound) → IsWindow rows v s t i low row b
    → 1 ≤ b.response → IsNext s i low (low + b.response)
next-start rows v s t i low row b window least =
    go (start-or-pending s i low b.response) (start-or-late s.activations i (low + b.response))
  where
    go : IsNext s i low (low + b.response) ⊎ ((x : ℕ) → low ≤ x → x < low + b.response → IsPending s i x)
        → Each (IsOverBy i (low + b.response)) s.activations ⊎ IsLate s.activations i (low + b.response)
        → IsNext s i low (low + b.response)
    go (inl next) end = next
    go (inr pending) (inl start) = record { time = low + b.response; after = omega arith; by = le_refl (low + b.response); start = start }
    go (inr pending) (inr late) = absurd (none-late rows v s t i low row b window least pending late)

-- the first start after a release comes within the response time from that release on
pub start-after : (rows : List ThreadRow) (v : List Bound) (s : Schedule) (t i : ℕ) (row : ThreadRow) (b : Bound) (r : ℕ) → IsTable rows → Fits rows v
    → IsReady rows v s t
    → slice_get rows i ≡ Some row → slice_get v i ≡ Some b → 1 ≤ b.response → r + b.response ≤ suc t
    → (d low : ℕ) → IsStart s i low → low ≤ r → r ≤ low + d → IsNext s i r (r + b.response)
start-after rows v s t i row b r table fits ready asks gets least by zero low start early near =
    let next = next-start rows v s t i low row b (record {
      table = table;
      fits = fits;
      ready = ready;
      asks = asks;
      gets = gets;
      start = start;
      by = omega arith;
    }) least in
    let after : low < next.time = next.after in
    let last : next.time ≤ low + b.response = next.by in
    record { time = next.time; after = omega arith; by = omega arith; start = next.start }
start-after rows v s t i row b r table fits ready asks gets least by (suc d) low start early near =
    let next = next-start rows v s t i low row b (record {
      table = table;
      fits = fits;
      ready = ready;
      asks = asks;
      gets = gets;
      start = start;
      by = omega arith;
    }) least in
    go next (nat_lt r next.time) refl (λ again early more. start-after rows v s t i row b r table fits ready asks gets least
    by d next.time again early more)
  where
    go : (next : IsNext s i low (low + b.response)) (c : Bool) → nat_lt r next.time ≡ c
        → (IsStart s i next.time → next.time ≤ r → r ≤ next.time + d → IsNext s i r (r + b.response)) → IsNext s i r (r + b.response)
    go next true hc rest =
        let last : next.time ≤ low + b.response = next.by in
        record { time = next.time; after = grind arith; by = omega arith; start = next.start }
    go next false hc rest =
        let after : low < next.time = next.after in
        rest next.start (grind arith) (omega arith)

-- the schedule law up to a time
pub on-time : (rows : List ThreadRow) (v : List Bound) (s : Schedule) → IsTable rows → Fits rows v → IsSchedule rows v s → (t : ℕ) → t ≤ horizon s
    → AllOnTime rows v s t
on-time rows v s table fits schedule zero h = λ k a row b at by.
    let least : 1 ≤ b.response = response-some rows v a.row row b table fits at.asks at.gets in absurd (omega arith)
on-time rows v s table fits schedule (suc t) h = λ k a row b at by.
    let near : t ≤ horizon s = omega arith in
    let earlier = on-time rows v s table fits schedule t near in
    step k a row b at by earlier (nat_le (a.release + b.response) t) refl
  where
    step : (k : ℕ) (a : Activation) (row : ThreadRow) (b : Bound) → IsAt rows v s k a row b → a.release + b.response ≤ suc t → AllOnTime rows v s t
        → (c : Bool) → nat_le (a.release + b.response) t ≡ c → is_over a.end (a.release + b.response) ≡ true
    step k a row b at by earlier true hc = earlier k a row b at (grind arith)
    step k a row b at by earlier false hc =
        let least = response-some rows v a.row row b table fits at.asks at.gets in
        let ready : IsReady rows v s t = record { schedule = schedule; near = omega arith; on_time = earlier } in
        let first : IsStart s a.row 0 = each-from (IsOverBy a.row 0) s.activations (λ j c stands low before. absurd (omega arith)) in
        let next = start-after rows v s t a.row row b a.release table fits ready at.asks at.gets least by a.release 0 first zero-le (omega arith) in
        over-later a.end next.time (a.release + b.response) next.by
        (each-get (IsOverBy a.row next.time) s.activations k a next.start at.stands (le_refl a.row) next.after)
