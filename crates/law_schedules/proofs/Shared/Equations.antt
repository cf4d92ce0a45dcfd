-- What a vector that fits gives each row: its equation, its limits, and the entries of its level.
use Rattle.std.specs.Prelude.{◌≡◌, ℕ, zero, suc, ◌+◌, ◌≤◌, ◌<◌, List, [], ◌∷◌, ◌++◌, length, zip, take, get_or, sum_by, slice_get, Some, refl}
use Rattle.std.specs.List.{AllZip}
use Rattle.std.proofs.Common.{ap, arith}
use Rattle.std.proofs.lemmas.Option.{get_or_from_slice_get, slice_get_within}
use Rattle.rt_response.specs.declared.rows.ThreadRow.{ThreadRow}
use Rattle.rt_response.specs.declared.rows.Bound.{Bound}
use Rattle.rt_response.specs.Response.{Entry, interference, jitter_by, response_after, right_sides, Meets, Fits}
use Rattle.rt_response.proofs.Shared.Places.{right_sides-at}

pub all_zip-at : {A B : Type 0} (R : A → B → Type 0) (xs : List A) (ys : List B) (i : ℕ) (x : A) (y : B) → AllZip R xs ys → slice_get xs i ≡ Some x
    → slice_get ys i ≡ Some y → R x y
all_zip-at R [] [] i x y h e f = cc
all_zip-at R [] (z ∷ ys) i x y h e f = absurd h
all_zip-at R (z ∷ xs) [] i x y h e f = absurd h
all_zip-at R (z ∷ xs) (u ∷ ys) zero x y h e f =
    let is : z ≡ x = cc in
    let also : u ≡ y = cc in
    rw (← is, ← also) h.0
all_zip-at R (z ∷ xs) (u ∷ ys) (suc i) x y h e f = all_zip-at R xs ys i x y h.1 e f

-- an element where the list is long enough
pub has-at : {A : Type 0} (xs : List A) (i : ℕ) → i < length xs → (x : A) × (slice_get xs i ≡ Some x)
has-at [] i h = absurd (omega arith)
has-at (x ∷ xs) zero h = (x, refl)
has-at (x ∷ xs) (suc i) h = has-at xs i (omega arith)

-- the entries before a row
abbrev pub entries_before : List ThreadRow → List Bound → ℕ → List Entry
entries_before rows v i = zip (take i rows) (take i v)

-- a row's response time in a vector that meets the equations
pub meets-response : (rows : List ThreadRow) (v : List Bound) (i : ℕ) (row : ThreadRow) (b : Bound) → Meets rows v → slice_get rows i ≡ Some row
    → slice_get v i ≡ Some b
    → row.block + row.cost + sum_by (interference b.response) (entries_before rows v i) ≤ b.response
meets-response rows v i row b meets asks gets =
    let inside : i < length rows = slice_get_within rows i row asks in
    let side = right_sides-at rows v i row b inside meets.0 in
    let same_row : get_or rows i row ≡ row = get_or_from_slice_get rows i row row asks in
    let same_bound : get_or v i b ≡ b = get_or_from_slice_get v i b b gets in
    let at = rw (same_row, same_bound) at side in
    (all_zip-at (λ a c. (a.jitter ≤ c.jitter) × (a.response ≤ c.response)) (right_sides rows v) v i
    (record { jitter = jitter_by v row row.starter; response = response_after (entries_before rows v i) (row, b) }) b meets.1 at gets).1

-- a row's limits in a vector that fits
pub fits-limits : (rows : List ThreadRow) (v : List Bound) (i : ℕ) (row : ThreadRow) (b : Bound) → Fits rows v → slice_get rows i ≡ Some row
    → slice_get v i ≡ Some b
    → (b.response ≤ row.deadline) × (b.jitter + b.response ≤ row.period)
fits-limits rows v i row b fits asks gets = all_zip-at (λ r c. (c.response ≤ r.deadline)
    × (c.jitter + c.response ≤ r.period)) rows v i row b fits.1 asks gets

-- so many entries stand before a row
pub before-count : (rows : List ThreadRow) (v : List Bound) (i : ℕ) (row : ThreadRow) (b : Bound) → slice_get rows i ≡ Some row
    → slice_get v i ≡ Some b → length (entries_before rows v i) ≡ i
before-count [] v i row b asks gets = cc
before-count (r ∷ rows) [] i row b asks gets = cc
before-count (r ∷ rows) (c ∷ v) zero row b asks gets = refl
before-count (r ∷ rows) (c ∷ v) (suc i) row b asks gets = ap suc (before-count rows v i row b asks gets)

-- an entry before a row is a row with what the vector gives it
pub before-at : (rows : List ThreadRow) (v : List Bound) (i j : ℕ) (e : Entry) → slice_get (entries_before rows v i) j ≡ Some e
    → (slice_get rows j ≡ Some e.0) × (slice_get v j ≡ Some e.1)
before-at rows v zero j e h = cc
before-at [] v (suc i) j e h = cc
before-at (r ∷ rows) [] (suc i) j e h = cc
before-at (r ∷ rows) (c ∷ v) (suc i) zero e h =
    let own : Entry = (r, c) in
    let is : own ≡ e = cc in
    (ap (λ x. Some x.0) is, ap (λ x. Some x.1) is)
before-at (r ∷ rows) (c ∷ v) (suc i) (suc j) e h = before-at rows v i j e h

-- the entries of a level: those before its row, and its own
abbrev pub level_entries : List ThreadRow → List Bound → ℕ → ThreadRow → Bound → List Entry
level_entries rows v i row b = entries_before rows v i ++ (row, b) ∷ []

-- each row of a level has its entry
pub level-at : (rows : List ThreadRow) (v : List Bound) (i j : ℕ) (row r : ThreadRow) (b c : Bound) → slice_get rows i ≡ Some row
    → slice_get v i ≡ Some b → j ≤ i
    → slice_get rows j ≡ Some r → slice_get v j ≡ Some c → slice_get (level_entries rows v i row b) j ≡ Some (r, c)
level-at [] v i j row r b c asks gets low e f = cc
level-at (x ∷ rows) [] i j row r b c asks gets low e f = cc
level-at (x ∷ rows) (y ∷ v) zero zero row r b c asks gets low e f =
    let same_row : row ≡ r = cc in
    let same_bound : b ≡ c = cc in
    rw (same_row, same_bound) refl
level-at (x ∷ rows) (y ∷ v) zero (suc j) row r b c asks gets low e f = absurd (omega arith)
level-at (x ∷ rows) (y ∷ v) (suc i) zero row r b c asks gets low e f =
    let same_row : x ≡ r = cc in
    let same_bound : y ≡ c = cc in
    rw (same_row, same_bound) refl
level-at (x ∷ rows) (y ∷ v) (suc i) (suc j) row r b c asks gets low e f = level-at rows v i j row r b c asks gets (omega arith) e f
