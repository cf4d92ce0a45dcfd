-- Releases are at most the jitter after their nominal times, as long as all is on time.
use Rattle.std.specs.Prelude.{◌≡◌, ◌⊎◌, ℕ, zero, suc, ◌+◌, ◌-◌, ◌≤◌, ◌<◌, true, List, length, slice_get, Option, Some, None, get_or, pos, ◌+ℤ◌}
use Rattle.std.specs.Prelude.{◌-ℤ◌, ◌≤ℤ◌}
use Rattle.std.proofs.Common.{◌∙◌, ap, subst, arith, inl, inr}
use Rattle.law_responses.proofs.Marks.{each-at}
use Rattle.std.proofs.lemmas.Option.{get_or_from_slice_get, slice_get_within}
use Rattle.std.proofs.lemmas.Bool.{cases_lt}
use Rattle.std.proofs.lemmas.Int.{ints}
use Rattle.rt_response.specs.declared.rows.ThreadRow.{ThreadRow}
use Rattle.rt_response.specs.declared.rows.Bound.{Bound}
use Rattle.rt_response.specs.Response.{inherited, jitter_by, response_after, right_sides, Fits}
use Rattle.rt_response.proofs.Shared.Places.{right_sides-at}
use Rattle.law_schedules.specs.Schedules.{Activation, ticks_of, is_over, horizon, IsAt, AllOnTime}
use Rattle.law_schedules.proofs.Shared.Equations.{all_zip-at, has-at, fits-limits, entries_before}
use Rattle.law_responses.proofs.Logs.{Made, Log, EndsAfter, IsWell, IsLogged, Follows, IsOpenAt, Cause, IsTimely, IsTimed, activation, schedule_of}
use Rattle.law_responses.proofs.Numbers.{stands-activation, made-of}

-- a row's jitter in a vector that fits
fits-jitter : (rows : List ThreadRow) (v : List Bound) (i : ℕ) (row : ThreadRow) (b : Bound) → Fits rows v → slice_get rows i ≡ Some row
    → slice_get v i ≡ Some b
    → jitter_by v row row.starter ≤ b.jitter
fits-jitter rows v i row b fits asks gets =
    let inside : i < length rows = slice_get_within rows i row asks in
    let side = right_sides-at rows v i row b inside fits.0.0 in
    let same_row : get_or rows i row ≡ row = get_or_from_slice_get rows i row row asks in
    let same_bound : get_or v i b ≡ b = get_or_from_slice_get v i b b gets in
    let at = rw (same_row, same_bound) at side in
    (all_zip-at (λ a c. (a.jitter ≤ c.jitter) × (a.response ≤ c.response)) (right_sides rows v) v i
    (record { jitter = jitter_by v row row.starter; response = response_after (entries_before rows v i) (row, b) }) b fits.0.1 at gets).0

-- a row of the table has what the vector gives it
gets-bound : (rows : List ThreadRow) (v : List Bound) (i : ℕ) (row : ThreadRow) → Fits rows v → slice_get rows i ≡ Some row
    → (b : Bound) × (slice_get v i ≡ Some b)
gets-bound rows v i row fits asks = has-at v i (omega (arith, slice_get_within rows i row asks, fits.0.0))

-- the bound of an activation, in the log's numbers
abbrev InTime : List ThreadRow → List Bound → ℕ → ℕ → Log → ℕ → Type 0
InTime rows v shift t l k =
    (m : Made) (row : ThreadRow) (b : Bound) → slice_get l.acts k ≡ Some m → slice_get rows m.row ≡ Some row → slice_get v m.row ≡ Some b
    → m.release ≤ t
    → shift + m.release ≤ m.nominal + b.jitter

-- the end of an activation whose response time is past
over-in_time : (rows : List ThreadRow) (v : List Bound) (shift t : ℕ) (l : Log) → AllOnTime rows v (schedule_of rows shift l) t
    → (k : ℕ) (m : Made) (row : ThreadRow) (b : Bound) → slice_get l.acts k ≡ Some m → slice_get rows m.row ≡ Some row → slice_get v m.row ≡ Some b
    → m.release + b.response ≤ t
    → is_over m.over (m.release + b.response) ≡ true
over-in_time rows v shift t l on_time k m row b stands asks gets by =
    on_time k (activation rows shift l.ticks (0 + k) m) row b
    (record { stands = stands-activation rows shift l.ticks 0 l.acts k m stands; asks = asks; gets = gets }) by

over-by : (end : Option ℕ) (x time : ℕ) → is_over end time ≡ true → end ≡ Some x → x ≤ time
over-by None x time over e = cc
over-by (Some y) x time over e = let is : y ≡ x = cc in grind arith

open-by : (end : Option ℕ) (asked time : ℕ) → IsOpenAt asked end → is_over end time ≡ true → asked ≤ time
open-by None asked time live over = cc
open-by (Some y) asked time live over = grind arith

-- an activation is asked for within the jitter
asked-in_time : (rows : List ThreadRow) (v : List Bound) (shift t : ℕ) (l : Log) → Fits rows v → IsLogged rows l
    → AllOnTime rows v (schedule_of rows shift l) t
    → (k : ℕ) (m : Made) (row : ThreadRow) (b : Bound) → slice_get rows m.row ≡ Some row → slice_get v m.row ≡ Some b → m.asked ≤ t
    → ((j : ℕ) → j < k → InTime rows v shift t l j) → Cause shift l.acts row k m → shift + m.asked ≤ m.nominal + b.jitter
asked-in_time rows v shift t l fits logged on_time k m row b asks gets by earlier (inl own) = omega (arith, own)
asked-in_time rows v shift t l fits logged on_time k m row b asks gets by earlier (inr (inl outer)) =
    let jitter : row.jitter ≤ b.jitter = subst (λ o. jitter_by v row o ≤ b.jitter) outer.0 (fits-jitter rows v m.row row b fits asks gets) in
    omega (arith, outer.1, jitter)
asked-in_time rows v shift t l fits logged on_time k m row b asks gets by earlier (inr (inr inner)) =
    let n : Made = inner.made in
    let well : IsWell rows l.ticks inner.place n = logged.each inner.place n inner.stands in
    let bound = gets-bound rows v n.row well.row fits well.asks in
    let c : Bound = bound.0 in
    let after : n.release ≤ m.asked = inner.after in
    let nominal : n.nominal ≡ m.nominal = inner.nominal in
    let first : shift + n.release ≤ n.nominal + c.jitter
    = earlier inner.place inner.earlier n well.row c inner.stands well.asks bound.1 (omega (arith, after, by)) in
    let from_row : inherited (slice_get v n.row) ≤ b.jitter
    = subst (λ o. jitter_by v row o ≤ b.jitter) inner.starter (fits-jitter rows v m.row row b fits asks gets) in
    let jitter : c.jitter + c.response ≤ b.jitter = subst (λ o. inherited o ≤ b.jitter) bound.1 from_row in
    let request : m.asked ≤ n.release + c.response = within c.response (cases_lt t (n.release + c.response))
    (λ h. over-in_time rows v shift t l on_time inner.place n well.row c inner.stands well.asks bound.1 h) in
    omega (arith, first, jitter, request, nominal)
  where
    within : (response : ℕ) → (t < inner.made.release + response) ⊎ (inner.made.release + response ≤ t)
        → (inner.made.release + response ≤ t → is_over inner.made.over (inner.made.release + response) ≡ true)
        → m.asked ≤ inner.made.release + response
    within response (inl past) over = omega (arith, past, by)
    within response (inr near) over = open-by inner.made.over m.asked (inner.made.release + response) inner.during (over near)

-- an activation that is late began when the one before ended, which is on time
late-in_time : (rows : List ThreadRow) (v : List Bound) (shift t : ℕ) (l : Log) → Fits rows v → IsLogged rows l → IsTimed rows shift l
    → AllOnTime rows v (schedule_of rows shift l) t
    → (k : ℕ) (m : Made) (row : ThreadRow) (b : Bound) → slice_get l.acts k ≡ Some m → slice_get rows m.row ≡ Some row → slice_get v m.row ≡ Some b
    → m.release ≤ t
    → ((j : ℕ) → j < k → InTime rows v shift t l j) → Follows l.acts k m → shift + m.release ≤ m.nominal + b.jitter
late-in_time rows v shift t l fits logged timed on_time k m row b stands asks gets by earlier follows =
    let n : Made = follows.made in
    let well : IsWell rows l.ticks follows.place n = logged.each follows.place n follows.stands in
    let same : n.row ≡ m.row = follows.same in
    let asks' : slice_get rows n.row ≡ Some row = ap (slice_get rows) same ∙ asks in
    let gets' : slice_get v n.row ≡ Some b = ap (slice_get v) same ∙ gets in
    let apart : n.nominal + row.period ≤ m.nominal = timed.apart follows.place k n m row follows.earlier follows.stands stands same asks in
    let asked : m.nominal ≤ shift + m.asked = (timed.each k m stands).asked in
    let waited : m.asked ≤ m.release = (timed.each k m stands).waited in
    let limits : b.jitter + b.response ≤ row.period = (fits-limits rows v m.row row b fits asks gets).1 in
    let before : n.release ≤ m.release = released_before n.over follows.ended well.ends in
    let first : shift + n.release ≤ n.nominal + b.jitter
    = earlier follows.place follows.earlier n row b follows.stands asks' gets' (omega (arith, before, by)) in
    let near : n.release + b.response ≤ t = omega (arith, first, limits, apart, asked, waited, by) in
    let over : is_over n.over (n.release + b.response) ≡ true
    = over-in_time rows v shift t l on_time follows.place n row b follows.stands asks' gets' near in
    let end : m.release ≤ n.release + b.response = over-by n.over m.release (n.release + b.response) over follows.ended in
    omega (arith, first, limits, apart, end)
  where
    released_before : (over : Option ℕ) → over ≡ Some m.release → EndsAfter (ticks_of follows.place l.ticks) over → follows.made.release ≤ m.release
    released_before None e ends = cc
    released_before (Some end) e ends =
        let is : end ≡ m.release = cc in
        let well : IsWell rows l.ticks follows.place follows.made = logged.each follows.place follows.made follows.stands in
        let after : follows.made.release ≤ ends.0
        = each-at (λ x. follows.made.release ≤ x) (ticks_of follows.place l.ticks) (length (ticks_of follows.place l.ticks) - 1) ends.0
        well.after ends.1 in
        omega (arith, after, is, ends.2)

in_time-step : (rows : List ThreadRow) (v : List Bound) (shift t : ℕ) (l : Log) → Fits rows v → IsLogged rows l → IsTimed rows shift l
    → AllOnTime rows v (schedule_of rows shift l) t
    → (k : ℕ) → ((j : ℕ) → j < k → InTime rows v shift t l j) → InTime rows v shift t l k
in_time-step rows v shift t l fits logged timed on_time k earlier m row b stands asks gets by = go timely.late
  where
    timely : IsTimely rows shift l.acts k m
    timely = timed.each k m stands

    go : (m.release ≡ m.asked) ⊎ Follows l.acts k m → shift + m.release ≤ m.nominal + b.jitter
    go (inl same) =
        let asked : shift + m.asked ≤ m.nominal + b.jitter =
        asked-in_time rows v shift t l fits logged on_time k m row b asks gets (omega (arith, same, by)) earlier (timely.cause row asks) in
        omega (arith, asked, same)
    go (inr follows) = late-in_time rows v shift t l fits logged timed on_time k m row b stands asks gets by earlier follows

in_time-below : (rows : List ThreadRow) (v : List Bound) (shift t : ℕ) (l : Log) → Fits rows v → IsLogged rows l → IsTimed rows shift l
    → AllOnTime rows v (schedule_of rows shift l) t
    → (n k : ℕ) → k < n → InTime rows v shift t l k
in_time-below rows v shift t l fits logged timed on_time zero k less = absurd (omega arith)
in_time-below rows v shift t l fits logged timed on_time (suc n) k less =
    in_time-step rows v shift t l fits logged timed on_time k (λ j below. in_time-below rows v shift t l fits logged timed on_time n j (omega arith))

pub in_time : (rows : List ThreadRow) (v : List Bound) (shift t : ℕ) (l : Log) → Fits rows v → IsLogged rows l → IsTimed rows shift l
    → AllOnTime rows v (schedule_of rows shift l) t
    → (k : ℕ) → InTime rows v shift t l k
in_time rows v shift t l fits logged timed on_time k = in_time-below rows v shift t l fits logged timed on_time (suc k) k (omega arith)

shifted-from : (n r shift : ℕ) → n ≤ shift + r → (pos n -ℤ pos shift) ≤ℤ pos r
shifted-from n r shift h = omega (arith, ints)

shifted-to : (n r shift jitter : ℕ) → shift + r ≤ n + jitter → pos r ≤ℤ ((pos n -ℤ pos shift) +ℤ pos jitter)
shifted-to n r shift jitter h = omega (arith, ints)

-- the jitters of the schedule of a log
pub jitters-of : (rows : List ThreadRow) (v : List Bound) (shift : ℕ) (l : Log) → Fits rows v → IsLogged rows l → IsTimed rows shift l
    → (t : ℕ) → t ≤ horizon (schedule_of rows shift l) → AllOnTime rows v (schedule_of rows shift l) t
    → (k : ℕ) (a : Activation) (row : ThreadRow) (b : Bound) → IsAt rows v (schedule_of rows shift l) k a row b → a.release ≤ t
    → (a.nominal ≤ℤ pos a.release) × (pos a.release ≤ℤ (a.nominal +ℤ pos b.jitter))
jitters-of rows v shift l fits logged timed t near on_time k a row b at by =
    let found = made-of rows shift l k a at.stands in
    let m : Made = found.made in
    let timely : IsTimely rows shift l.acts k m = timed.each k m found.stands in
    let asks : slice_get rows m.row ≡ Some row = ap (λ c. slice_get rows c.row) found.is ∙ at.asks in
    let gets : slice_get v m.row ≡ Some b = ap (λ c. slice_get v c.row) found.is ∙ at.gets in
    let same : m.release ≡ a.release = ap (λ c. c.release) found.is in
    let asked : m.nominal ≤ shift + m.asked = timely.asked in
    let waited : m.asked ≤ m.release = timely.waited in
    let most : shift + m.release ≤ m.nominal + b.jitter
    = in_time rows v shift t l fits logged timed on_time k m row b found.stands asks gets (omega (arith, same, by)) in
    subst (λ c. (c.nominal ≤ℤ pos c.release) × (pos c.release ≤ℤ (c.nominal +ℤ pos b.jitter))) found.is
    (shifted-from m.nominal m.release shift (omega (arith, asked, waited)), shifted-to m.nominal m.release shift b.jitter most)
