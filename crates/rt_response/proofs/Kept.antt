-- A row keeps its response where neither its own nor a jitter above it changed: its right side depends on nothing else.
use Rattle.std.specs.Prelude.{◌≡◌, ℕ, zero, suc, ◌+◌, ◌<◌, List, [], ◌∷◌, length, zip, take, drop, set, get_or, fold, sum_by, slice_get, Some, None, refl}
use Rattle.std.specs.Prelude.{Bool, true, false, not}
use Rattle.std.proofs.Common.{sym, ◌∙◌, ap, ap₂, arith, add-zero, add-one}
use Rattle.std.proofs.lemmas.List.{drop-set-lt, get_or-drop}
use Rattle.std.proofs.lemmas.Option.{slice_get-get_or}
use borrow.Author.Count.{below_more}
use Rattle.rt_response.specs.declared.rows.ThreadRow.{ThreadRow}
use Rattle.rt_response.specs.declared.rows.Bound.{Bound}
use Rattle.rt_response.specs.Response.{interference, response_after, right_sides}
use Rattle.rt_response.specs.Entries.{IsKept}
use Rattle.rt_response.proofs.Shared.Places.{right_sides-at}

abbrev nothing : Bound
nothing = record { jitter = 0; response = 0 }

-- what an index past the end of a table would give
abbrev no_row : ThreadRow
no_row = record { period = 0; deadline = 0; jitter = 0; cost = 0; block = 0; starter = None }

-- two vectors with the same jitters in their first rows
abbrev pub SameJitters : ℕ → List Bound → List Bound → Type 0
SameJitters i u v = (j : ℕ) → j < i → (get_or u j nothing).jitter ≡ (get_or v j nothing).jitter

same_term : (w a c : ℕ) (row : ThreadRow) (x y : Bound) → a ≡ c → x.jitter ≡ y.jitter
    → a + interference w (row, x) ≡ c + interference w (row, y)
same_term w a c row x y h k = ap₂ (λ n j. n + interference w (row, record { jitter = j; response = 0 })) h k

same_sum : (w a c : ℕ) (rows : List ThreadRow) (u v : List Bound) (i : ℕ) → a ≡ c → length u ≡ length v → SameJitters i u v
    → fold (λ n e. n + interference w e) a (zip (take i rows) (take i u)) ≡ fold (λ n e. n + interference w e) c (zip (take i rows) (take i v))
same_sum w a c rows u v zero h long same = h
same_sum w a c [] u v (suc i) h long same = h
same_sum w a c (row ∷ rows) [] [] (suc i) h long same = h
same_sum w a c (row ∷ rows) [] (y ∷ v) (suc i) h long same = absurd (omega arith)
same_sum w a c (row ∷ rows) (x ∷ u) [] (suc i) h long same = absurd (omega arith)
same_sum w a c (row ∷ rows) (x ∷ u) (y ∷ v) (suc i) h long same =
    let rest : length u ≡ length v = omega arith in
    same_sum w (a + interference w (row, x)) (c + interference w (row, y)) rows u v i (same_term w a c row x y h (same 0 (omega arith))) rest
    (λ j less. same (suc j) (omega (arith, less)))

same_response : (rows : List ThreadRow) (u v : List Bound) (i : ℕ) (row : ThreadRow) (x y : Bound) → length u ≡ length v → SameJitters i u v
    → x.response ≡ y.response
    → response_after (zip (take i rows) (take i u)) (row, x) ≡ response_after (zip (take i rows) (take i v)) (row, y)
same_response rows u v i row x y long same h =
    ap (λ w. row.block + row.cost + sum_by (interference w) (zip (take i rows) (take i u))) h
    ∙ ap (λ n. row.block + row.cost + n) (same_sum y.response 0 0 rows u v i refl long same)

some_same : {x y : Bound} → Some x ≡ Some y → x.response ≡ y.response
some_same e = cc

-- a row keeps its response where neither its own nor a jitter above it changed
pub row-kept : (rows : List ThreadRow) (u v : List Bound) (i : ℕ) → length u ≡ length rows → length v ≡ length rows → i < length rows
    → v ≡ right_sides rows u → SameJitters i u v → (get_or u i nothing).response ≡ (get_or v i nothing).response
    → IsKept rows v i
row-kept rows u v i long_u long_v inside follows same h b side at_v at_side =
    let row : ThreadRow = get_or rows i no_row in
    let now = right_sides-at rows v i no_row nothing inside long_v in
    let then = right_sides-at rows u i no_row nothing inside long_u in
    let before : b.response ≡ response_after (zip (take i rows) (take i u)) (row, get_or u i nothing)
    = some_same (sym at_v ∙ ap (λ z. slice_get z i) follows ∙ then) in
    let after : side.response ≡ response_after (zip (take i rows) (take i v)) (row, get_or v i nothing) = some_same (sym at_side ∙ now) in
    let long : length u ≡ length v = omega arith in
    after ∙ sym (same_response rows u v i row (get_or u i nothing) (get_or v i nothing) long same h) ∙ sym before

-- what is left of a vector that was stored up to a row holds that row as it was
pub same-left : (into u : List Bound) (i : ℕ) → drop i into ≡ drop i u → get_or into i nothing ≡ get_or u i nothing
same-left into u i h =
    let mine : get_or (drop i into) 0 nothing ≡ get_or into i nothing = get_or-drop i into 0 nothing ∙ ap (λ n. get_or into n nothing) (add-zero i) in
    let other : get_or (drop i u) 0 nothing ≡ get_or u i nothing = get_or-drop i u 0 nothing ∙ ap (λ n. get_or u n nothing) (add-zero i) in
    sym mine ∙ ap (λ v. get_or v 0 nothing) h ∙ other

drop-next : (v : List Bound) (i : ℕ) → drop (suc i) v ≡ drop 1 (drop i v)
drop-next v zero = refl
drop-next [] (suc i) = refl
drop-next (x ∷ v) (suc i) = drop-next v i

-- a store leaves what is behind it
pub left-next : (into u : List Bound) (i : ℕ) (b : Bound) → drop i into ≡ drop i u → drop (i + 1) (set into i b) ≡ drop (i + 1) u
left-next into u i b h =
    let less : i < i + 1 = omega arith in
    drop-set-lt (i + 1) into i b less ∙ rw add-one (drop-next into i ∙ ap (λ v. drop 1 v) h ∙ sym (drop-next u i))

-- one more row with the same jitter
pub steady-next : (into u v : List Bound) (i : ℕ) → drop i into ≡ drop i u → SameJitters i u v
    → (get_or into i nothing).jitter ≡ (get_or v i nothing).jitter → SameJitters (i + 1) u v
steady-next into u v i left h k =
    below_more (λ j. (get_or u j nothing).jitter ≡ (get_or v j nothing).jitter) i h (ap (λ b. b.jitter) (sym (same-left into u i left)) ∙ k)

pub steady-first : (first : Bool) → not first ≡ true → first ≡ false
steady-first true h = cc
steady-first false h = refl

-- what a kept row has in the vector is what its equation gives it
pub kept-response : (rows : List ThreadRow) (v : List Bound) (i r : ℕ) → length v ≡ length rows → i < length rows → IsKept rows v i
    → r ≡ (get_or v i nothing).response → (side : Bound) → slice_get (right_sides rows v) i ≡ Some side → r ≡ side.response
kept-response rows v i r long inside kept h side at_side =
    h ∙ sym (kept (get_or v i nothing) side (slice_get-get_or v i nothing (omega arith)) at_side)

-- what the equation of a row computes
pub computed-response : (rows : List ThreadRow) (v : List Bound) (i r : ℕ) → length v ≡ length rows → i < length rows
    → r ≡ response_after (zip (take i rows) (take i v)) (get_or rows i no_row, get_or v i nothing)
    → (side : Bound) → slice_get (right_sides rows v) i ≡ Some side → r ≡ side.response
computed-response rows v i r long inside h side at_side = h ∙ some_same (sym (right_sides-at rows v i no_row nothing inside long) ∙ at_side)
