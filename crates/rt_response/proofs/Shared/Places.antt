-- The right sides of the equations by their places, and the ranges that keep products and sums small.
use Rattle.std.specs.Prelude.{◌≡◌, ℕ, zero, suc, ◌+◌, ◌≤◌, ◌<◌, List, [], ◌∷◌, ◌++◌, length, zip, take, drop, set, get_or, slice_get, Option}
use Rattle.std.specs.Prelude.{Some, None, Result, Ok, Err, IfOk, IfErr, refl}
use Rattle.std.specs.List.{AllZip}
use Rattle.std.proofs.Common.{sym, ◌∙◌, ap, arith, append_assoc, append-nil, add-one, take_all}
use Rattle.std.proofs.Math.Seq.{take-suc, take-suc-set, drop-cons}
use Rattle.std.proofs.lemmas.List.{drop_all}
use Rattle.std.proofs.lemmas.Option.{slice_get_within, get_or_from_slice_get}
use Rattle.std.proofs.lemmas.Slice.Zip.{AllZip-long}
use Rattle.rt_response.specs.declared.rows.ThreadRow.{ThreadRow}
use Rattle.rt_response.specs.declared.rows.Bound.{Bound}
use Rattle.rt_response.specs.declared.excess.Excess.{Excess}
use Rattle.rt_response.specs.Tables.{Each, IsRow}
use Rattle.rt_response.specs.Response.{Entry, response_after, jitter_by, sides_after, right_sides, IsWithinLimits}
use Rattle.rt_response.specs.Rounds.{excess_or, first_excess}
use Rattle.rt_response.specs.Entries.{IsEntry, excess_from}

-- what holds of each element holds of that at a place
pub each-at : {A : Type 0} (P : A → Type 0) (xs : List A) (i : ℕ) (d : A) → Each P xs → i < length xs → P (get_or xs i d)
each-at P [] i d h k = absurd (omega arith)
each-at P (x ∷ xs) zero d h k = h.0
each-at P (x ∷ xs) (suc i) d h k = each-at P xs i d h.1 (omega arith)

-- rows of a table with bounds within their limits
pub entries-within : (n : ℕ) (rows : List ThreadRow) (v : List Bound) → Each (IsRow n) rows → IsWithinLimits rows v → AllZip IsEntry rows v
entries-within n [] [] h k = tt
entries-within n [] (b ∷ v) h k = absurd k
entries-within n (row ∷ rows) [] h k = absurd k
entries-within n (row ∷ rows) (b ∷ v) h k =
    let asks : 1 ≤ row.deadline = h.0.asks in
    let before : row.deadline ≤ row.period = h.0.before_next in
    let period : row.period ≤ 1000000000 = h.0.period in
    let reach : b.jitter + b.response ≤ row.period = k.0.1 in
    (record { period = omega arith; cost = h.0.cost; reach = omega arith }, entries-within n rows v h.1 k.1)

-- the first of them
pub entries-front : (i : ℕ) (rows : List ThreadRow) (v : List Bound) → AllZip IsEntry rows v → AllZip IsEntry (take i rows) (take i v)
entries-front zero rows v h = tt
entries-front (suc i) [] [] h = tt
entries-front (suc i) [] (b ∷ v) h = absurd h
entries-front (suc i) (row ∷ rows) [] h = absurd h
entries-front (suc i) (row ∷ rows) (b ∷ v) h = (h.0, entries-front i rows v h.1)

-- no jitter and response together are above the greatest period
pub entries-reach : (rows : List ThreadRow) (v : List Bound) → AllZip IsEntry rows v → Each (λ b. b.jitter + b.response ≤ 1000000000) v
entries-reach [] [] h = tt
entries-reach [] (b ∷ v) h = absurd h
entries-reach (row ∷ rows) [] h = absurd h
entries-reach (row ∷ rows) (b ∷ v) h = (h.0.reach, entries-reach rows v h.1)

-- a response within its limits is small
pub response-small : (n : ℕ) (rows : List ThreadRow) (v : List Bound) (i : ℕ) (e : Bound) → Each (IsRow n) rows → IsWithinLimits rows v
    → i < length rows
    → (get_or v i e).response ≤ 1000000000
response-small n rows v i e h k inside =
    let long : length v ≡ length rows = AllZip-long _ rows v k in
    let within : i < length v = omega arith in
    let reach = each-at (λ b. b.jitter + b.response ≤ 1000000000) v i e (entries-reach rows v (entries-within n rows v h k)) within in
    omega (arith, reach)

sides_after-at : (v u : List Bound) (bs : List Entry) (rows : List ThreadRow) (i : ℕ) (d : ThreadRow) (e : Bound) → i < length rows
    → length u ≡ length rows
    → slice_get (sides_after v bs (zip rows u)) i
    ≡ Some (record {
      jitter = jitter_by v (get_or rows i d) (get_or rows i d).starter;
      response = response_after (bs ++ zip (take i rows) (take i u)) (get_or rows i d, get_or u i e);
    })
sides_after-at v u bs [] i d e h k = absurd (omega arith)
sides_after-at v [] bs (row ∷ rows) i d e h k = absurd (omega arith)
sides_after-at v (b ∷ u) bs (row ∷ rows) zero d e h k = rw append-nil refl
sides_after-at v (b ∷ u) bs (row ∷ rows) (suc i) d e h k =
    let more : i < length rows = omega arith in
    let long : length u ≡ length rows = omega arith in
    let rest = sides_after-at v u (bs ++ (row, b) ∷ []) rows i d e more long in
    rw append_assoc at rest

-- the right side of a row
pub right_sides-at : (rows : List ThreadRow) (v : List Bound) (i : ℕ) (d : ThreadRow) (e : Bound) → i < length rows → length v ≡ length rows
    → slice_get (right_sides rows v) i
    ≡ Some (record {
      jitter = jitter_by v (get_or rows i d) (get_or rows i d).starter;
      response = response_after (zip (take i rows) (take i v)) (get_or rows i d, get_or v i e);
    })
right_sides-at rows v i d e h k = sides_after-at v v [] rows i d e h k

-- a list from a place on, where an element stands
pub drop-at : {A : Type 0} (xs : List A) (i : ℕ) (x : A) → slice_get xs i ≡ Some x → drop i xs ≡ x ∷ drop (suc i) xs
drop-at xs i x h = drop-cons xs i x (slice_get_within xs i x h) ∙ ap (λ y. y ∷ drop (suc i) xs) (get_or_from_slice_get xs i x x h)

-- the excesses from a row on are that of this row or those of later ones
pub excess_from-at : (rows : List ThreadRow) (v : List Bound) (i : ℕ) (d : ThreadRow) (w : Bound) → i < length rows
    → slice_get (right_sides rows v) i ≡ Some w
    → excess_from rows v i ≡ excess_or i (get_or rows i d) w (excess_from rows v (suc i))
excess_from-at rows v i d w h k =
    let front : drop i rows ≡ get_or rows i d ∷ drop (suc i) rows = drop-cons rows i d h in
    ap (λ xs. first_excess i xs (drop i (right_sides rows v))) front ∙ ap (λ ys. first_excess i (get_or rows i d ∷ drop (suc i) rows) ys)
    (drop-at (right_sides rows v) i w k)

-- a row whose right side is within its limits
pub side-found : (rows : List ThreadRow) (v : List Bound) (i : ℕ) (d : ThreadRow) (e : Bound) (j r : ℕ) → i < length rows → length v ≡ length rows
    → j ≡ jitter_by v (get_or rows i d) (get_or rows i d).starter → r ≡ response_after (zip (take i rows) (take i v)) (get_or rows i d, get_or v i e)
    → (found : Result Bound Excess) → IfOk found (λ b. (b ≡ record { jitter = j; response = r })
    × ((others : Option Excess) → excess_or i (get_or rows i d) b others ≡ others))
    → IfOk found (λ b. (slice_get (right_sides rows v) i ≡ Some b) × (excess_from rows v i ≡ excess_from rows v (i + 1)))
side-found rows v i d e j r h k same_j same_r (Err x) within = tt
side-found rows v i d e j r h k same_j same_r (Ok b) within =
    let stands = right_sides-at rows v i d e h k in
    let is : slice_get (right_sides rows v) i ≡ Some b = cc in
    (is, rw add-one (excess_from-at rows v i d b h is ∙ within.1 (excess_from rows v (suc i))))

-- a row whose right side is over a limit
pub side-over : (rows : List ThreadRow) (v : List Bound) (i : ℕ) (d : ThreadRow) (e : Bound) (j r : ℕ) → i < length rows → length v ≡ length rows
    → j ≡ jitter_by v (get_or rows i d) (get_or rows i d).starter → r ≡ response_after (zip (take i rows) (take i v)) (get_or rows i d, get_or v i e)
    → (found : Result Bound Excess) → IfErr found (λ x. (others : Option Excess)
    → excess_or i (get_or rows i d) (record { jitter = j; response = r }) others ≡ Some x)
    → IfErr found (λ x. excess_from rows v i ≡ Some x)
side-over rows v i d e j r h k same_j same_r (Ok b) over = tt
side-over rows v i d e j r h k same_j same_r (Err x) over =
    let w : Bound = record { jitter = j; response = r } in
    let stands = right_sides-at rows v i d e h k in
    let is : slice_get (right_sides rows v) i ≡ Some w = cc in
    excess_from-at rows v i d w h is ∙ over (excess_from rows v (suc i))

sides_after-long : (v u : List Bound) (bs : List Entry) (rows : List ThreadRow) → length u ≡ length rows
    → length (sides_after v bs (zip rows u)) ≡ length rows
sides_after-long v u bs [] h = refl
sides_after-long v [] bs (row ∷ rows) h = absurd (omega arith)
sides_after-long v (b ∷ u) bs (row ∷ rows) h =
    let long : length u ≡ length rows = omega arith in
    ap suc (sides_after-long v u (bs ++ (row, b) ∷ []) rows long)

-- each row has a right side
pub right_sides-long : (rows : List ThreadRow) (v : List Bound) → length v ≡ length rows → length (right_sides rows v) ≡ length rows
right_sides-long rows v h = sides_after-long v v [] rows h

-- a store of the next element
pub store-next : {A : Type 0} (xs ys : List A) (i : ℕ) (y : A) → i < length xs → take i xs ≡ take i ys → slice_get ys i ≡ Some y
    → take (i + 1) (set xs i y) ≡ take (i + 1) ys
store-next xs ys i y h k is =
    let inside = slice_get_within ys i y is in
    rw (add-one, take-suc-set xs i y h, take-suc ys i y inside, get_or_from_slice_get ys i y y is, k) refl

-- all elements are stored
pub store-all : {A : Type 0} (xs ys : List A) (i : ℕ) → length xs ≡ i → length ys ≡ i → take i xs ≡ take i ys → xs ≡ ys
store-all xs ys i h k same =
    let more : length xs ≤ i = omega arith in
    let less : length ys ≤ i = omega arith in
    sym (take_all i xs more) ∙ same ∙ take_all i ys less

-- no row is left
pub excess_from-end : (rows : List ThreadRow) (v : List Bound) (i : ℕ) → length rows ≡ i → excess_from rows v i ≡ None
excess_from-end rows v i h =
    let past : length rows ≤ i = omega arith in
    ap (λ xs. first_excess i xs (drop i (right_sides rows v))) (drop_all i rows past)
