-- The rounds stay below every vector that meets the equations, so where one goes over a limit no vector fits.
use Rattle.std.specs.Prelude.{nat_lt, false, ◌≡◌, ℕ, zero, suc, ◌+◌, ◌*◌, ◌≤◌, ◌<◌, List, [], ◌∷◌, ◌++◌, map, length, zip, fold, sum_by}
use Rattle.std.specs.Prelude.{slice_get, Option, Some, None, refl}
use Rattle.std.specs.List.{AllZip}
use Rattle.std.specs.Int.{div_ceil}
use Rattle.std.proofs.Common.{le_trans, le_refl, sym, ◌∙◌, ap, subst, arith, zero-le, add-le-add, mul-le-mul_right}
use Rattle.std.proofs.lemmas.Grind.{div_ceil_times}
use Rattle.std.proofs.Math.Nat.{div-zero, mod-zero, lt_of_mul-lt-mul_right}
use Rattle.rt_response.specs.declared.rows.ThreadRow.{ThreadRow}
use Rattle.rt_response.specs.declared.rows.Bound.{Bound}
use Rattle.rt_response.specs.Response.{Entry, interference, response_after, inherited, jitter_by, sides_after, right_sides, IsAtMost, Meets}
use Rattle.rt_response.specs.Response.{IsWithinLimits, Fits}
use Rattle.rt_response.specs.declared.rows.Miss.{Miss}
use Rattle.rt_response.specs.declared.excess.Excess.{Excess}
use Rattle.rt_response.specs.Rounds.{first_jitter, round, first_excess, IsMiss}

-- entries of one row, one nowhere above the other
abbrev EntryAtMost : Entry → Entry → Type 0
EntryAtMost e f = (e.0 ≡ f.0) × (e.1.jitter ≤ f.1.jitter) × (e.1.response ≤ f.1.response)

abbrev EntriesAtMost : List Entry → List Entry → Type 0
EntriesAtMost es fs = AllZip EntryAtMost es fs

-- a quotient that is rounded up grows with what is divided
pub div_ceil-mono : (a c b : ℕ) → a ≤ c → div_ceil a b ≤ div_ceil c b
div_ceil-mono a c zero h = simp (div-zero, mod-zero) (grind arith)
div_ceil-mono a c (suc b) h =
    let positive : 0 < suc b = omega arith in
    let low : div_ceil a (suc b) * suc b < (div_ceil c (suc b) + 1) * suc b
    = omega (arith, (div_ceil_times a (suc b) positive).1, (div_ceil_times c (suc b) positive).0) in
    let less : div_ceil a (suc b) < div_ceil c (suc b) + 1 = lt_of_mul-lt-mul_right (suc b) low in
    omega arith

interference_mono : (w u : ℕ) (e f : Entry) → w ≤ u → EntryAtMost e f → interference w e ≤ interference u f
interference_mono w u e f h k =
    let sum : w + e.1.jitter ≤ u + f.1.jitter = let j : e.1.jitter ≤ f.1.jitter = k.1 in omega arith in
    let part : interference w e ≤ interference u (e.0, f.1)
    = mul-le-mul_right (e.0.cost) (div_ceil-mono (w + e.1.jitter) (u + f.1.jitter) e.0.period sum) in
    subst (λ r. interference w e ≤ interference u (r, f.1)) k.0 part

sum_mono : (w u a c : ℕ) (es fs : List Entry) → w ≤ u → a ≤ c → EntriesAtMost es fs
    → fold (λ n x. n + interference w x) a es ≤ fold (λ n x. n + interference u x) c fs
sum_mono w u a c [] [] h k t = k
sum_mono w u a c [] (f ∷ fs) h k t = absurd t
sum_mono w u a c (e ∷ es) [] h k t = absurd t
sum_mono w u a c (e ∷ es) (f ∷ fs) h k t =
    sum_mono w u (a + interference w e) (c + interference u f) es fs h (add-le-add k (interference_mono w u e f h t.0)) t.1

response_mono : (bs cs : List Entry) (e f : Entry) → EntriesAtMost bs cs → EntryAtMost e f → response_after bs e ≤ response_after cs f
response_mono bs cs e f h k =
    let sums : sum_by (interference e.1.response) bs ≤ sum_by (interference f.1.response) cs
    = sum_mono e.1.response f.1.response 0 0 bs cs k.2 (le_refl 0) h in
    let same : e.0.block + e.0.cost ≡ f.0.block + f.0.cost = ap (λ r. r.block + r.cost) k.0 in
    add-le-add (subst (λ n. e.0.block + e.0.cost ≤ n) same (le_refl (e.0.block + e.0.cost))) sums

inherited_mono : (v u : List Bound) (k : ℕ) → IsAtMost v u → inherited (slice_get v k) ≤ inherited (slice_get u k)
inherited_mono [] [] k h = le_refl (inherited (slice_get [] k))
inherited_mono [] (c ∷ u) k h = absurd h
inherited_mono (b ∷ v) [] k h = absurd h
inherited_mono (b ∷ v) (c ∷ u) zero h = add-le-add h.0.0 h.0.1
inherited_mono (b ∷ v) (c ∷ u) (suc k) h = inherited_mono v u k h.1

jitter_mono : (v u : List Bound) (row : ThreadRow) (s : Option ℕ) → IsAtMost v u → jitter_by v row s ≤ jitter_by u row s
jitter_mono v u row None h = le_refl row.jitter
jitter_mono v u row (Some k) h = inherited_mono v u k h

snoc_mono : (bs cs : List Entry) (e f : Entry) → EntriesAtMost bs cs → EntryAtMost e f → EntriesAtMost (bs ++ e ∷ []) (cs ++ f ∷ [])
snoc_mono [] [] e f h k = (k, tt)
snoc_mono [] (c ∷ cs) e f h k = absurd h
snoc_mono (b ∷ bs) [] e f h k = absurd h
snoc_mono (b ∷ bs) (c ∷ cs) e f h k = (h.0, snoc_mono bs cs e f h.1 k)

sides_mono : (v u : List Bound) (bs cs es fs : List Entry) → IsAtMost v u → EntriesAtMost bs cs → EntriesAtMost es fs
    → IsAtMost (sides_after v bs es) (sides_after u cs fs)
sides_mono v u bs cs [] [] h k t = tt
sides_mono v u bs cs [] (f ∷ fs) h k t = absurd t
sides_mono v u bs cs (e ∷ es) [] h k t = absurd t
sides_mono v u bs cs (e ∷ es) (f ∷ fs) h k t =
    let jitter : jitter_by v e.0 e.0.starter ≤ jitter_by u f.0 f.0.starter =
    subst (λ r. jitter_by v e.0 e.0.starter ≤ jitter_by u r r.starter) t.0.0 (jitter_mono v u e.0 e.0.starter h) in
    ((jitter, response_mono bs cs e f k t.0), sides_mono v u (bs ++ e ∷ []) (cs ++ f ∷ []) es fs h (snoc_mono bs cs e f k t.0) t.1)

zip_mono : (rows : List ThreadRow) (v u : List Bound) → IsAtMost v u → EntriesAtMost (zip rows v) (zip rows u)
zip_mono [] v u h = tt
zip_mono (row ∷ rows) [] [] h = tt
zip_mono (row ∷ rows) [] (c ∷ u) h = absurd h
zip_mono (row ∷ rows) (b ∷ v) [] h = absurd h
zip_mono (row ∷ rows) (b ∷ v) (c ∷ u) h = ((refl, h.0.0, h.0.1), zip_mono rows v u h.1)

-- the right sides grow with the vector
pub right_sides-mono : (rows : List ThreadRow) (v u : List Bound) → IsAtMost v u → IsAtMost (right_sides rows v) (right_sides rows u)
right_sides-mono rows v u h = sides_mono v u [] [] (zip rows v) (zip rows u) h tt (zip_mono rows v u h)

at_most-trans : (v u w : List Bound) → IsAtMost v u → IsAtMost u w → IsAtMost v w
at_most-trans [] [] [] h k = tt
at_most-trans [] [] (z ∷ w) h k = absurd k
at_most-trans [] (y ∷ u) w h k = absurd h
at_most-trans (x ∷ v) [] w h k = absurd h
at_most-trans (x ∷ v) (y ∷ u) [] h k = absurd k
at_most-trans (x ∷ v) (y ∷ u) (z ∷ w) h k = ((le_trans h.0.0 k.0.0, le_trans h.0.1 k.0.1), at_most-trans v u w h.1 k.1)

pub at_most-refl : (v : List Bound) → IsAtMost v v
at_most-refl [] = tt
at_most-refl (b ∷ v) = ((le_refl b.jitter, le_refl b.response), at_most-refl v)

first_below : (v : List Bound) (row : ThreadRow) (s : Option ℕ) → first_jitter row.jitter s ≤ jitter_by v row s
first_below v row None = le_refl row.jitter
first_below v row (Some k) = zero-le

start_below : (rows : List ThreadRow) (v u : List Bound) (bs : List Entry) → length u ≡ length rows
    → IsAtMost (map (λ row. record { jitter = first_jitter row.jitter row.starter; response = row.block + row.cost }) rows)
    (sides_after v bs (zip rows u))
start_below [] u [] bs h = tt
start_below [] v (b ∷ u) bs h = tt
start_below (row ∷ rows) v [] bs h = absurd (omega arith)
start_below (row ∷ rows) v (b ∷ u) bs h =
    let rest : length u ≡ length rows = omega arith in
    let more : row.block + row.cost ≤ response_after bs (row, b) = omega arith in
    ((first_below v row row.starter, more), start_below rows v u (bs ++ (row, b) ∷ []) rest)

-- each round is nowhere above a vector that meets the equations
pub round-below : (rows : List ThreadRow) (u : List Bound) (k : ℕ) → Meets rows u → IsAtMost (round rows k) u
round-below rows u zero h = at_most-trans (round rows 0) (right_sides rows u) u (start_below rows u u [] h.0) h.1
round-below rows u (suc k) h =
    at_most-trans (right_sides rows (round rows k)) (right_sides rows u) u (right_sides-mono rows (round rows k) u (round-below rows u k h)) h.1

-- a vector that is nowhere above one within the limits has no excess
below-no_excess : (i : ℕ) (rows : List ThreadRow) (v u : List Bound) → IsAtMost v u → IsWithinLimits rows u → first_excess i rows v ≡ None
below-no_excess i [] v u h k = refl
below-no_excess i (row ∷ rows) [] u h k = refl
below-no_excess i (row ∷ rows) (b ∷ v) [] h k = absurd h
below-no_excess i (row ∷ rows) (b ∷ v) (c ∷ u) h k =
    let jitter : b.jitter ≤ c.jitter = h.0.0 in
    let response : b.response ≤ c.response = h.0.1 in
    let deadline : c.response ≤ row.deadline = k.0.0 in
    let period : c.jitter + c.response ≤ row.period = k.0.1 in
    let first : nat_lt row.deadline b.response ≡ false = grind arith in
    let second : nat_lt row.period (b.jitter + b.response) ≡ false = grind arith in
    rw first (rw second (below-no_excess (suc i) rows v u h.1 k.1))

-- where a round has a value over its limit, no vector fits
pub miss-none_fits : (rows : List ThreadRow) (m : Miss) (u : List Bound) → IsMiss rows m → Fits rows u → ⊥
miss-none_fits rows m u miss fits =
    let none : first_excess 0 rows (round rows m.round) ≡ None
    = below-no_excess 0 rows (round rows m.round) u (round-below rows u m.round fits.0) fits.1 in
    some_none (sym miss.over ∙ none)
  where
    some_none : {x : Excess} → Some x ≡ None → ⊥
    some_none e = cc
