-- The rounds by their places: they rise, and each value rests on those of the round before.
use Rattle.std.specs.Prelude.{◌≡◌, ℕ, zero, suc, ◌+◌, ◌≤◌, ◌<◌, List, [], ◌∷◌, length, zip, take, replicate, get_or, slice_get, Option, Some, None}
use Rattle.std.proofs.Common.{sym, subst, arith, zero-le}
use Rattle.std.proofs.Math.ListN.{length-map}
use Rattle.std.proofs.lemmas.Option.{slice_get_within, get_or_from_slice_get, slice_get-get_or}
use Rattle.rt_response.specs.declared.rows.ThreadRow.{ThreadRow}
use Rattle.rt_response.specs.declared.rows.Bound.{Bound}
use Rattle.rt_response.specs.Tables.{Each, IsRow, IsStarter, IsTable}
use Rattle.rt_response.specs.Response.{jitter_by, response_after, IsAtMost}
use Rattle.rt_response.specs.Rounds.{first_jitter, round, before_round}
use Rattle.rt_response.proofs.Shared.Least.{right_sides-mono}
use Rattle.rt_response.proofs.Shared.Places.{right_sides-at, right_sides-long}
use Rattle.rt_response.proofs.Shared.Solving.{round-next}
use Rattle.late_response.specs.Late.{OfBoth, Needs}
use Rattle.late_response.specs.Progress.{StartsAt}

pub some-same : {A : Type 0} {x y : A} → Some x ≡ Some y → x ≡ y
some-same e = cc

pub some-none : {A : Type 0} {x : A} → Some x ≡ None → ⊥
some-none e = cc

-- what holds of each element holds of that at a place
pub each-place : {A : Type 0} (P : A → Type 0) (xs : List A) (i : ℕ) (x : A) → Each P xs → slice_get xs i ≡ Some x → P x
each-place P [] i x h e = absurd (some-none (sym e))
each-place P (y ∷ xs) zero x h e = subst P (some-same e) h.0
each-place P (y ∷ xs) (suc i) x h e = each-place P xs i x h.1 e

-- a vector that is nowhere above another isn't so at a place
pub at_most-at : (v u : List Bound) (i : ℕ) (b c : Bound) → IsAtMost v u → slice_get v i ≡ Some b → slice_get u i ≡ Some c
    → (b.jitter ≤ c.jitter) × (b.response ≤ c.response)
at_most-at [] u i b c h e f = absurd (some-none (sym e))
at_most-at (x ∷ v) [] i b c h e f = absurd h
at_most-at (x ∷ v) (y ∷ u) zero b c h e f =
    let P : Bound → Bound → Type 0 = λ z w. (z.jitter ≤ w.jitter) × (z.response ≤ w.response) in
    subst (λ z. P z c) (some-same e) (subst (λ w. P x w) (some-same f) h.0)
at_most-at (x ∷ v) (y ∷ u) (suc i) b c h e f = at_most-at v u i b c h.1 e f

pub round-long : (rows : List ThreadRow) (k : ℕ) → length (round rows k) ≡ length rows
round-long rows zero = length-map rows (λ row. record { jitter = first_jitter row.jitter row.starter; response = row.block + row.cost })
round-long rows (suc k) = right_sides-long rows (round rows k) (round-long rows k)

zeros-below : (n : ℕ) (v : List Bound) → length v ≡ n → IsAtMost (replicate n (record { jitter = 0; response = 0 })) v
zeros-below zero [] h = tt
zeros-below zero (b ∷ v) h = absurd (omega arith)
zeros-below (suc n) [] h = absurd (omega arith)
zeros-below (suc n) (b ∷ v) h = ((zero-le, zero-le), zeros-below n v (omega arith))

-- each round is nowhere above the next
pub rounds-rise : (rows : List ThreadRow) (k : ℕ) → Each (IsRow (length rows)) rows → IsAtMost (round rows k) (round rows (suc k))
rounds-rise rows zero h =
    let more = right_sides-mono rows (before_round rows 0) (round rows 0) (zeros-below (length rows) (round rows 0) (round-long rows 0)) in
    subst (λ v. IsAtMost v (round rows 1)) (round-next rows 0 h) more
rounds-rise rows (suc k) h = right_sides-mono rows (round rows k) (round rows (suc k)) (rounds-rise rows k h)

-- the bound of a row in the next round
pub round-suc : (rows : List ThreadRow) (k i : ℕ) (row : ThreadRow) (b : Bound) → slice_get rows i ≡ Some row
    → slice_get (round rows k) i ≡ Some b
    → slice_get (round rows (suc k)) i
    ≡ Some (record {
      jitter = jitter_by (round rows k) row row.starter;
      response = response_after (zip (take i rows) (take i (round rows k))) (row, b);
    })
round-suc rows k i row b is at =
    let side = right_sides-at rows (round rows k) i row b (slice_get_within rows i row is) (round-long rows k) in
    let same : get_or rows i row ≡ row = get_or_from_slice_get rows i row row is in
    let here : get_or (round rows k) i b ≡ b = get_or_from_slice_get (round rows k) i b b at in
    let P : ThreadRow → Bound → Type 0 = λ r c. slice_get (round rows (suc k)) i ≡ Some (record {
      jitter = jitter_by (round rows k) r r.starter;
      response = response_after (zip (take i rows) (take i (round rows k))) (r, c);
    }) in
    subst (λ c. P row c) here (subst (λ r. P r (get_or (round rows k) i b)) same side)

-- each row has a bound in each round
pub round-has : (rows : List ThreadRow) (k i : ℕ) → i < length rows → (b : Bound) × (slice_get (round rows k) i ≡ Some b)
round-has rows k i h =
    let inside : i < length (round rows k) = omega (arith, round-long rows k) in
    (get_or (round rows k) i (record { jitter = 0; response = 0 }), slice_get-get_or (round rows k) i _ inside)

-- a starter is one of the rows
pub starts-within : (rows : List ThreadRow) (place s : ℕ) → IsTable rows → StartsAt rows place s → s < length rows
starts-within rows place s table starts =
    let row = each-place (IsRow (length rows)) rows place starts.row table.each starts.is in
    subst (λ o. IsStarter (length rows) o) starts.started row.starter

pub needs-starts : (rows : List ThreadRow) (i s : ℕ) → (needs : Needs rows i s) → StartsAt rows needs.place s
needs-starts rows i s needs = record { row = needs.row; is = needs.is; started = needs.started }

abbrev pub starts-needs : (rows : List ThreadRow) (i place s : ℕ) → place ≤ i → StartsAt rows place s → Needs rows i s
starts-needs rows i place s up starts = record { place = place; row = starts.row; up = up; is = starts.is; started = starts.started }

-- a fact of a row and its bound
pub of-both : (P : ThreadRow → Bound → Type 0) (o : Option ThreadRow) (q : Option Bound) (row : ThreadRow) (b : Bound) → o ≡ Some row
    → q ≡ Some b → P row b → OfBoth P o q
of-both P o q row b e f h = subst (λ z. OfBoth P z q) (sym e) (subst (λ z. OfBoth P (Some row) z) (sym f) h)

pub from-both : (P : ThreadRow → Bound → Type 0) (o : Option ThreadRow) (q : Option Bound) (row : ThreadRow) (b : Bound) → o ≡ Some row
    → q ≡ Some b → OfBoth P o q → P row b
from-both P o q row b e f h = subst (λ z. OfBoth P (Some row) z) f (subst (λ z. OfBoth P z q) e h)
