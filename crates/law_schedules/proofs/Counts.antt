-- How many activations of a row are released in a window: at most as many as the response equations count.
use Rattle.std.specs.Prelude.{◌≡◌, ◌≢◌, ◌⊎◌, ℕ, zero, suc, ◌+◌, ◌*◌, ◌≤◌, ◌<◌, ◌&&◌, ◌==◌, Bool, true, false, List, [], ◌∷◌, slice_get, Option}
use Rattle.std.specs.Prelude.{Some, nat_le, nat_lt, ℤ, pos, negsuc, ◌+ℤ◌, ◌≤ℤ◌, refl}
use Rattle.std.specs.Int.{div_ceil}
use Rattle.std.proofs.Common.{sym, ◌∙◌, ap, subst, arith, inl, inr, le_trans}
use Rattle.std.proofs.lemmas.Int.{ints}
use Rattle.std.proofs.lemmas.Grind.{div_ceil_times}
use Rattle.rt_response.specs.declared.rows.ThreadRow.{ThreadRow}
use Rattle.rt_response.specs.declared.rows.Bound.{Bound}
use Rattle.rt_response.specs.Tables.{Each}
use Rattle.law_schedules.specs.Schedules.{Activation, Schedule, only_if, horizon, IsAt, AllOnTime, IsSchedule}
use Rattle.law_schedules.proofs.Ticks.{one}
use Rattle.law_schedules.proofs.Sums.{when, sum_of-le}
use Rattle.law_schedules.proofs.Cells.{inside, Pairs, AreApart, PlacedApart, cells}
use Rattle.law_schedules.proofs.Levels.{selected}

-- an element of which something holds
pub each-get : {A : Type 0} (P : A → Type 0) (xs : List A) (k : ℕ) (x : A) → Each P xs → slice_get xs k ≡ Some x → P x
each-get P [] k x h e = cc
each-get P (y ∷ xs) zero x h e = let is : y ≡ x = cc in subst P is h.0
each-get P (y ∷ xs) (suc k) x h e = each-get P xs k x h.1 e

pub each-from : {A : Type 0} (P : A → Type 0) (xs : List A) → ((k : ℕ) (x : A) → slice_get xs k ≡ Some x → P x) → Each P xs
each-from P [] h = tt
each-from P (x ∷ xs) h = (h 0 x refl, each-from P xs (λ k y e. h (suc k) y e))

pairs-from : {A : Type 0} (R : A → A → Type 0) (xs : List A) → ((k l : ℕ) (x y : A) → k < l → slice_get xs k ≡ Some x → slice_get xs l ≡ Some y
    → R x y) → Pairs R xs
pairs-from R [] h = tt
pairs-from R (x ∷ xs) h = (
  each-from (R x) xs (λ l y e. h 0 (suc l) x y (omega arith) refl e),
  pairs-from R xs (λ k l y z less e f.
      h (suc k) (suc l) y z (omega arith) e f),
)

-- an integer that is no less than 0, as a number
abbrev pub to_nat : ℤ → ℕ
to_nat (pos n) = n
to_nat (negsuc n) = 0

to_nat-is : (z : ℤ) (r : ℕ) → pos r ≤ℤ z → z ≡ pos (to_nat z)
to_nat-is (pos n) r h = refl
to_nat-is (negsuc n) r h = absurd (omega (arith, ints))

-- whether an activation is released in a window
abbrev pub in_window : ℕ → ℕ → Activation → Bool
in_window low w a = nat_le low a.release && nat_lt a.release (low + w)

-- an activation is in a window
pub window-facts : (low w : ℕ) (a : Activation) → in_window low w a ≡ true → (low ≤ a.release) × (a.release < low + w)
window-facts low w a h = go (nat_le low a.release) (nat_lt a.release (low + w)) refl refl h
  where
    go : (x y : Bool) → nat_le low a.release ≡ x → nat_lt a.release (low + w) ≡ y → (x && y) ≡ true → (low ≤ a.release) × (a.release < low + w)
    go true true hx hy e = (grind arith, grind arith)
    go true false hx hy e = cc
    go false y hx hy e = cc

-- what is known while all is on time up to t
pub record IsReady (rows : List ThreadRow) (v : List Bound) (s : Schedule) (t : ℕ) : Type 0 where
  pub schedule : IsSchedule rows v s
  pub near : t < horizon s
  pub on_time : AllOnTime rows v s t

-- a nominal time and the jitter, as a number from 0 on
abbrev pub latest : Bound → Activation → ℕ
latest b a = to_nat (a.nominal +ℤ pos b.jitter)

only_if-some : {A : Type 0} (b : Bool) (x p : A) → only_if b x ≡ Some p → (b ≡ true) × (x ≡ p)
only_if-some true x p h = (refl, cc)
only_if-some false x p h = cc

both : (x y : Bool) → (x && y) ≡ true → (x ≡ true) × (y ≡ true)
both true true h = (refl, refl)
both true false h = cc
both false y h = cc

-- the place of an activation of a row in a window, by its latest release
abbrev placed : ℕ → ℕ → ℕ → Bound → Activation → Option ℕ
placed q low w b a = only_if (in_window low w a && a.row == q) (latest b a)

-- an activation of a row that is released by a time at which all is on time
record IsReleased (rows : List ThreadRow) (v : List Bound) (s : Schedule) (q : ℕ) (row : ThreadRow) (b : Bound) (k : ℕ)
    (a : Activation) : Type 0 where
  is_row : a.row ≡ q
  place : IsAt rows v s k a row b
  is : a.nominal +ℤ pos b.jitter ≡ pos (latest b a)
  from_release : a.release ≤ latest b a
  to_release : latest b a ≤ a.release + b.jitter

released : (rows : List ThreadRow) (v : List Bound) (s : Schedule) (t q : ℕ) (row : ThreadRow) (b : Bound) (k : ℕ) (a : Activation)
    → IsReady rows v s t
    → slice_get rows q ≡ Some row → slice_get v q ≡ Some b → slice_get s.activations k ≡ Some a → a.row ≡ q → a.release ≤ t
    → IsReleased rows v s q row b k a
released rows v s t q row b k a ready asks gets stands same by =
    let at : IsAt rows v s k a row b = record {
      stands = stands;
      asks = ap (λ j. slice_get rows j) same ∙ asks;
      gets = ap (λ j. slice_get v j) same ∙ gets;
    } in
    let near : t ≤ horizon s = let less : t < horizon s = ready.near in omega arith in
    let times = ready.schedule.jitters t near ready.on_time k a row b at by in
    let early : a.nominal ≤ℤ pos a.release = times.0 in
    let late : pos a.release ≤ℤ (a.nominal +ℤ pos b.jitter) = times.1 in
    let is : a.nominal +ℤ pos b.jitter ≡ pos (latest b a) = to_nat-is (a.nominal +ℤ pos b.jitter) a.release late in
    record {
      is_row = same;
      place = at;
      is = is;
      from_release = from_release a.release (latest b a) (a.nominal +ℤ pos b.jitter) late is;
      to_release = to_release a.release (latest b a) b.jitter a.nominal early is;
    }
  where
    from_release : (r p : ℕ) (z : ℤ) → pos r ≤ℤ z → z ≡ pos p → r ≤ p
    from_release r p z h e = omega (arith, ints)

    to_release : (r p j : ℕ) (n : ℤ) → n ≤ℤ pos r → n +ℤ pos j ≡ pos p → p ≤ r + j
    to_release r p j n h e = omega (arith, ints)

apart_by : (len j p q : ℕ) (m n : ℤ) → m +ℤ pos j ≡ pos p → n +ℤ pos j ≡ pos q → ((m +ℤ pos len) ≤ℤ n) ⊎ ((n +ℤ pos len) ≤ℤ m) → AreApart len p q
apart_by len j p q m n e f apart = elim apart [ inl a ↦ inl (step len j p q m n e f a) | inr b ↦ inr (step len j q p n m f e b) ]
  where
    step : (len j p q : ℕ) (m n : ℤ) → m +ℤ pos j ≡ pos p → n +ℤ pos j ≡ pos q → (m +ℤ pos len) ≤ℤ n → p + len ≤ q
    step len j p q m n e f h = omega (arith, ints)

-- at most as many activations of a row are released in a window as the equations count
pub row-count : (rows : List ThreadRow) (v : List Bound) (s : Schedule) (t q : ℕ) (row : ThreadRow) (b : Bound) (low w : ℕ) → IsReady rows v s t
    → slice_get rows q ≡ Some row → slice_get v q ≡ Some b → 0 < row.period → low + w ≤ suc t
    → selected (in_window low w) s.activations q ≤ div_ceil (w + b.jitter) row.period
row-count rows v s t q row b low w ready asks gets positive by =
    let count = div_ceil (w + b.jitter) row.period in
    le_trans (sum_of-le (λ a. when (in_window low w a) (one (a.row == q))) (λ a. inside low (count * row.period) (placed q low w b a)) s.activations
    (λ k a stands. one_place k a stands (in_window low w a) (a.row == q) refl refl))
    (cells (placed q low w b) row.period s.activations count low (count * row.period) refl
    (pairs-from (PlacedApart (placed q low w b) row.period) s.activations two_places))
  where
    enough : w + b.jitter ≤ div_ceil (w + b.jitter) row.period * row.period
    enough = (div_ceil_times (w + b.jitter) row.period positive).0

    facts : (k : ℕ) (a : Activation) → slice_get s.activations k ≡ Some a → in_window low w a ≡ true → (a.row == q) ≡ true
        → IsReleased rows v s q row b k a
    facts k a stands hx hy =
        let window = window-facts low w a hx in
        let last : a.release ≤ t = let below : a.release < low + w = window.1 in omega arith in
        let same : a.row ≡ q = grind arith in
        released rows v s t q row b k a ready asks gets stands same last

    one_place : (k : ℕ) (a : Activation) → slice_get s.activations k ≡ Some a → (x y : Bool) → in_window low w a ≡ x → (a.row == q) ≡ y
        → when x (one y) ≤ inside low (div_ceil (w + b.jitter) row.period * row.period) (only_if (x && y) (latest b a))
    one_place k a stands false y hx hy = omega arith
    one_place k a stands true false hx hy = omega arith
    one_place k a stands true true hx hy =
        let fact = facts k a stands hx hy in
        let window = window-facts low w a hx in
        let above : low ≤ latest b a = let first : low ≤ a.release = window.0 in let late : a.release ≤ latest b a = fact.from_release
        in omega arith in
        let below : latest b a < low + div_ceil (w + b.jitter) row.period * row.period =
        let last : a.release < low + w = window.1 in let late : latest b a ≤ a.release + b.jitter = fact.to_release in omega (arith, enough) in
        let first : nat_le low (latest b a) ≡ true = grind arith in
        let second : nat_lt (latest b a) (low + div_ceil (w + b.jitter) row.period * row.period) ≡ true = grind arith in
        rw (first, second) (omega arith)

    two_places : (k l : ℕ) (a c : Activation) → k < l → slice_get s.activations k ≡ Some a → slice_get s.activations l ≡ Some c
        → PlacedApart (placed q low w b) row.period a c
    two_places k l a c less e f = λ p r is_p is_r.
        let of_a = only_if-some (in_window low w a && a.row == q) (latest b a) p is_p in
        let of_c = only_if-some (in_window low w c && c.row == q) (latest b c) r is_r in
        let in_a = both (in_window low w a) (a.row == q) of_a.0 in
        let in_c = both (in_window low w c) (c.row == q) of_c.0 in
        let fact_a = facts k a e in_a.0 in_a.1 in
        let fact_c = facts l c f in_c.0 in_c.1 in
        let differ : k ≢ l = omega arith in
        apart_by row.period b.jitter p r a.nominal c.nominal (fact_a.is ∙ ap pos of_a.1) (fact_c.is ∙ ap pos of_c.1)
        (ready.schedule.separate k l a c row b fact_a.place fact_c.place differ (fact_a.is_row ∙ sym fact_c.is_row))
