-- From a log to a schedule: what it uses and needs, and how far its activations are apart.
use Rattle.std.specs.Prelude.{◌≡◌, ◌≢◌, ◌⊎◌, ℕ, zero, suc, ◌+◌, ◌-◌, ◌≤◌, ◌<◌, List, [], ◌∷◌, length, slice_get, Option, Some, None, option_map}
use Rattle.std.specs.Prelude.{pos, ◌+ℤ◌, ◌-ℤ◌, ◌≤ℤ◌, refl}
use Rattle.std.proofs.Common.{sym, ◌∙◌, ap, subst, arith, inl, inr, le_refl}
use Rattle.std.proofs.lemmas.Option.{slice_get_within, slice_get_past}
use Rattle.std.proofs.lemmas.Bool.{cases_lt}
use Rattle.std.proofs.lemmas.Int.{ints}
use Rattle.rt_response.specs.declared.rows.ThreadRow.{ThreadRow}
use Rattle.rt_response.specs.declared.rows.Bound.{Bound}
use Rattle.rt_response.specs.Tables.{Each}
use Rattle.law_schedules.specs.Schedules.{Activation, ticks_of, IsAt}
use Rattle.law_responses.proofs.Logs.{Made, Log, EndsAfter, IsWell, IsLogged, AreUnended, IsTimed, need_by, cost_by, activation, activations}
use Rattle.law_responses.proofs.Logs.{schedule_of}

-- an activation of the schedule of a log
pub get-activation : (rows : List ThreadRow) (shift : ℕ) (ticks : List (Option ℕ)) (n : ℕ) (ms : List Made) (k : ℕ) (a : Activation)
    → slice_get (activations rows shift ticks n ms) k ≡ Some a → (m : Made) × (slice_get ms k ≡ Some m) × (activation rows shift ticks (n + k) m ≡ a)
get-activation rows shift ticks n [] k a e = cc
get-activation rows shift ticks n (m ∷ ms) zero a e =
    let is : activation rows shift ticks n m ≡ a = cc in
    let count : n + 0 ≡ n = omega arith in
    (m, refl, ap (λ j. activation rows shift ticks j m) count ∙ is)
get-activation rows shift ticks n (m ∷ ms) (suc k) a e =
    let found = get-activation rows shift ticks (suc n) ms k a e in
    let count : n + suc k ≡ suc n + k = omega arith in
    (found.0, found.1, ap (λ j. activation rows shift ticks j found.0) count ∙ found.2)

-- an activation that is made stands in the schedule
pub stands-activation : (rows : List ThreadRow) (shift : ℕ) (ticks : List (Option ℕ)) (n : ℕ) (ms : List Made) (k : ℕ) (m : Made)
    → slice_get ms k ≡ Some m → slice_get (activations rows shift ticks n ms) k ≡ Some (activation rows shift ticks (n + k) m)
stands-activation rows shift ticks n [] k m e = cc
stands-activation rows shift ticks n (x ∷ ms) zero m e =
    let is : x ≡ m = cc in
    let count : n ≡ n + 0 = omega arith in
    ap (λ y. Some (activation rows shift ticks n y)) is ∙ ap (λ j. Some (activation rows shift ticks j m)) count
stands-activation rows shift ticks n (x ∷ ms) (suc k) m e =
    let count : suc n + k ≡ n + suc k = omega arith in
    stands-activation rows shift ticks (suc n) ms k m e ∙ ap (λ j. Some (activation rows shift ticks j m)) count

pub uses-by : (cost : ℕ) (xs : List ℕ) (over : Option ℕ) → length xs ≤ cost → EndsAfter xs over → (over ≡ None → length xs < cost)
    → (length xs ≤ need_by cost (length xs) over) × (over ≡ option_map suc (slice_get xs (need_by cost (length xs) over - 1)))
uses-by cost xs None most ends less =
    let below : length xs < cost = less refl in
    let past : length xs ≤ cost - 1 = omega arith in
    (most, sym (ap (option_map suc) (slice_get_past xs (cost - 1) past)))
uses-by cost xs (Some end) most ends less = (le_refl (length xs), ap Some ends.2 ∙ sym (ap (option_map suc) ends.1))

pub needs-by : (cost : ℕ) (xs : List ℕ) (over : Option ℕ) → length xs ≤ cost → EndsAfter xs over → (over ≡ None → length xs < cost)
    → (1 ≤ need_by cost (length xs) over) × (need_by cost (length xs) over ≤ cost)
needs-by cost xs None most ends less = let below : length xs < cost = less refl in (omega arith, le_refl cost)
needs-by cost xs (Some end) most ends less =
    let inside : length xs - 1 < length xs = slice_get_within xs (length xs - 1) ends.0 ends.1 in
    (omega arith, most)

-- what an activation of the schedule is in the log
pub record IsMade (rows : List ThreadRow) (shift : ℕ) (l : Log) (k : ℕ) (a : Activation) : Type 0 where
  pub made : Made
  pub stands : slice_get l.acts k ≡ Some made
  pub is : activation rows shift l.ticks k made ≡ a

pub made-of : (rows : List ThreadRow) (shift : ℕ) (l : Log) (k : ℕ) (a : Activation) → slice_get (activations rows shift l.ticks 0 l.acts) k ≡ Some a
    → IsMade rows shift l k a
made-of rows shift l k a e =
    let found = get-activation rows shift l.ticks 0 l.acts k a e in
    let count : 0 + k ≡ k = omega arith in
    record { made = found.0; stands = found.1; is = ap (λ j. activation rows shift l.ticks j found.0) (sym count) ∙ found.2 }

-- rows are those of the table, and releases are up to the horizon
pub within-of : (rows : List ThreadRow) (shift : ℕ) (l : Log) → IsLogged rows l → (k : ℕ) (a : Activation)
    → slice_get (activations rows shift l.ticks 0 l.acts) k ≡ Some a → (a.row < length rows) × (a.release ≤ length l.ticks)
within-of rows shift l logged k a e =
    let found = made-of rows shift l k a e in
    let m : Made = found.made in
    let well : IsWell rows l.ticks k m = logged.each k m found.stands in
    subst (λ c. (c.row < length rows) × (c.release ≤ length l.ticks)) found.is (slice_get_within rows m.row well.row well.asks, well.released)

-- an activation needs a tick at least, and its row's cost at most
pub needs-of : (rows : List ThreadRow) (v : List Bound) (shift : ℕ) (l : Log) → IsLogged rows l → AreUnended rows l
    → (k : ℕ) (a : Activation) (row : ThreadRow) (b : Bound) → IsAt rows v (schedule_of rows shift l) k a row b → (1 ≤ a.need) × (a.need ≤ row.cost)
needs-of rows v shift l logged unended k a row b at =
    let found = made-of rows shift l k a at.stands in
    let m : Made = found.made in
    let well : IsWell rows l.ticks k m = logged.each k m found.stands in
    let asks : slice_get rows m.row ≡ Some row = ap (λ c. slice_get rows c.row) found.is ∙ at.asks in
    let xs : List ℕ = ticks_of k l.ticks in
    let same : well.row ≡ row = same_row (slice_get rows m.row) well.row row well.asks asks in
    let most : length xs ≤ row.cost = subst (λ r. length xs ≤ r.cost) same well.cost in
    let P : ℕ → Type 0 = λ cost. (1 ≤ need_by cost (length xs) m.over) × (need_by cost (length xs) m.over ≤ row.cost) in
    let by : P row.cost = needs-by row.cost xs m.over most well.ends (λ live. unended k m row found.stands live asks) in
    subst (λ c. (1 ≤ c.need) × (c.need ≤ row.cost)) found.is (subst P (sym (ap cost_by asks)) by)
  where
    same_row : (o : Option ThreadRow) (x y : ThreadRow) → o ≡ Some x → o ≡ Some y → x ≡ y
    same_row o x y e f = cc

-- an activation uses at most what it needs, from its release on, and ends after the last of it
pub uses-of : (rows : List ThreadRow) (shift : ℕ) (l : Log) → IsLogged rows l → AreUnended rows l
    → (k : ℕ) (a : Activation) → slice_get (activations rows shift l.ticks 0 l.acts) k ≡ Some a
    → (length (ticks_of k l.ticks) ≤ a.need) × Each (λ t. a.release ≤ t) (ticks_of k l.ticks)
    × (a.end ≡ option_map suc (slice_get (ticks_of k l.ticks) (a.need - 1)))
uses-of rows shift l logged unended k a e =
    let found = made-of rows shift l k a e in
    let m : Made = found.made in
    let well : IsWell rows l.ticks k m = logged.each k m found.stands in
    let row : ThreadRow = well.row in
    let xs : List ℕ = ticks_of k l.ticks in
    let P : ℕ → Type 0 = λ cost. (length xs ≤ need_by cost (length xs) m.over)
    × (m.over ≡ option_map suc (slice_get xs (need_by cost (length xs) m.over - 1))) in
    let by : P row.cost = uses-by row.cost xs m.over well.cost well.ends (λ live. unended k m row found.stands live well.asks) in
    let mine = subst P (sym (ap cost_by well.asks)) by in
    subst (λ c. (length xs ≤ c.need) × Each (λ t. c.release ≤ t) xs × (c.end ≡ option_map suc (slice_get xs (c.need - 1)))) found.is
    (mine.0, well.after, mine.1)

shifted-apart : (n m shift period : ℕ) → n + period ≤ m → ((pos n -ℤ pos shift) +ℤ pos period) ≤ℤ (pos m -ℤ pos shift)
shifted-apart n m shift period h = omega (arith, ints)

-- nominal times of one row differ by at least its period
pub separate-of : (rows : List ThreadRow) (v : List Bound) (shift : ℕ) (l : Log) → IsTimed rows shift l
    → (k j : ℕ) (a c : Activation) (row : ThreadRow) (b : Bound) → IsAt rows v (schedule_of rows shift l) k a row b
    → IsAt rows v (schedule_of rows shift l) j c row b → k ≢ j → a.row ≡ c.row
    → ((a.nominal +ℤ pos row.period) ≤ℤ c.nominal) ⊎ ((c.nominal +ℤ pos row.period) ≤ℤ a.nominal)
separate-of rows v shift l timed k j a c row b at_a at_c differ same = go (cases_lt k j)
  where
    one : (k j : ℕ) (a c : Activation) → k < j → slice_get (activations rows shift l.ticks 0 l.acts) k ≡ Some a
        → slice_get (activations rows shift l.ticks 0 l.acts) j ≡ Some c
        → a.row ≡ c.row → slice_get rows c.row ≡ Some row → (a.nominal +ℤ pos row.period) ≤ℤ c.nominal
    one k j a c less e f same asks =
        let first = made-of rows shift l k a e in
        let second = made-of rows shift l j c f in
        let m : Made = first.made in
        let n : Made = second.made in
        let rows_same : m.row ≡ n.row = ap (λ x. x.row) first.is ∙ same ∙ sym (ap (λ x. x.row) second.is) in
        let apart = timed.apart k j m n row less first.stands second.stands rows_same (ap (λ x. slice_get rows x.row) second.is ∙ asks) in
        let mine : ((pos m.nominal -ℤ pos shift) +ℤ pos row.period) ≤ℤ (pos n.nominal -ℤ pos shift)
        = shifted-apart m.nominal n.nominal shift row.period apart in
        subst (λ x. (x.nominal +ℤ pos row.period) ≤ℤ c.nominal) first.is
        (subst (λ x. ((pos m.nominal -ℤ pos shift) +ℤ pos row.period) ≤ℤ x.nominal) second.is mine)

    go : (k < j) ⊎ (j ≤ k) → ((a.nominal +ℤ pos row.period) ≤ℤ c.nominal) ⊎ ((c.nominal +ℤ pos row.period) ≤ℤ a.nominal)
    go (inl h) = inl (one k j a c h at_a.stands at_c.stands same at_c.asks)
    go (inr h) = inr (one j k c a (lt-of h) at_c.stands at_a.stands (sym same) at_a.asks)
      where
        lt-of : j ≤ k → j < k
        lt-of h = let other : k ≢ j = differ in go_lt (cases_lt j k) other
          where
            go_lt : (j < k) ⊎ (k ≤ j) → k ≢ j → j < k
            go_lt (inl less) other = less
            go_lt (inr more) other = absurd (other (let both : k ≡ j = omega arith in both))
