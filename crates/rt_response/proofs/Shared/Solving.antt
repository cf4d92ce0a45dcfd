-- The rounds rise from zeros within their limits, so they come to rest at the least vector or go over a limit.
use Rattle.std.specs.Prelude.{◌≡◌, ℕ, zero, suc, ◌+◌, ◌*◌, ◌≤◌, ◌<◌, List, [], ◌∷◌, ◌++◌, map, length, zip, replicate, sum_by, slice_get, nat_lt}
use Rattle.std.specs.Prelude.{Bool, true, false, Option, Some, None, if◌then◌else◌, refl}
use Rattle.std.proofs.Common.{le_refl, sym, ◌∙◌, ap, subst, arith, zero-le, add-one, add-zero}
use Rattle.std.proofs.lemmas.Slice.Eq.{slice_eq-Decides}
use Rattle.std.specs.Bool.{Decides}
use Rattle.std.proofs.lemmas.Bool.Decides.{Decides-and, Decides-eqb}
use lib.Pointwise.{pointwise}
use borrow.Author.Count.{below_more}
use Rattle.std.proofs.Math.Nat.{zero-div, zero-mod}
use Rattle.rt_response.specs.contracts.rows.BoundPartialEq.TheImpl as eq
use Rattle.rt_response.specs.declared.rows.ThreadRow.{ThreadRow}
use Rattle.rt_response.specs.declared.rows.Bound.{Bound}
use Rattle.rt_response.specs.declared.rows.Limit.TheVariants.{Deadline, Separation}
use Rattle.rt_response.specs.declared.excess.Excess.{Excess}
use Rattle.rt_response.specs.Tables.{Each, IsRow, IsTable}
use Rattle.rt_response.specs.Response.{Entry, interference, inherited, jitter_by, sides_after, right_sides, IsAtMost, Meets, IsWithinLimits}
use Rattle.rt_response.specs.Response.{IsLeastVector}
use Rattle.rt_response.specs.Rounds.{first_jitter, round, before_round, excess_or, first_excess, IsMiss}
use Rattle.rt_response.proofs.Shared.Least.{right_sides-mono, at_most-refl, round-below}
use Rattle.rt_response.proofs.Shared.Places.{right_sides-long}

abbrev nothing : Bound
nothing = record { jitter = 0; response = 0 }

abbrev zeros : List ThreadRow → List Bound
zeros rows = replicate (length rows) nothing

-- an entry that takes nothing of no window
abbrev TakesNothing : Entry → Type 0
TakesNothing e = interference 0 e ≡ 0

takes_nothing : (bs : List Entry) → Each TakesNothing bs → sum_by (interference 0) bs ≡ 0
takes_nothing [] h = refl
takes_nothing (e ∷ bs) h = rw h.0 (takes_nothing bs h.1)

takes-snoc : (bs : List Entry) (e : Entry) → Each TakesNothing bs → TakesNothing e → Each TakesNothing (bs ++ e ∷ [])
takes-snoc [] e h k = (k, tt)
takes-snoc (b ∷ bs) e h k = (h.0, takes-snoc bs e h.1 k)

inherits_nothing : (n k : ℕ) → inherited (slice_get (replicate n nothing) k) ≡ 0
inherits_nothing zero k = refl
inherits_nothing (suc n) zero = refl
inherits_nothing (suc n) (suc k) = inherits_nothing n k

jitter_at_first : (n : ℕ) (row : ThreadRow) (s : Option ℕ) → jitter_by (replicate n nothing) row s ≡ first_jitter row.jitter s
jitter_at_first n row None = refl
jitter_at_first n row (Some k) = inherits_nothing n k

from_zeros : (n m : ℕ) (bs : List Entry) (rows : List ThreadRow) → Each (IsRow m) rows → Each TakesNothing bs
    → sides_after (replicate n nothing) bs (zip rows (zeros rows))
    ≡ map (λ row. record { jitter = first_jitter row.jitter row.starter; response = row.block + row.cost }) rows
from_zeros n m bs [] h k = refl
from_zeros n m bs (row ∷ rows) h k =
    let entry : Entry = (row, nothing) in
    let takes : TakesNothing entry = rw (zero-div, zero-mod) (omega arith) in
    let none : sum_by (interference 0) bs ≡ 0 = takes_nothing bs k in
    rw (jitter_at_first n row row.starter, none, add-zero, from_zeros n m (bs ++ entry ∷ []) rows h.1 (takes-snoc bs entry k takes)) refl

-- each round is the right sides at what stands before it
pub round-next : (rows : List ThreadRow) (k : ℕ) → Each (IsRow (length rows)) rows → right_sides rows (before_round rows k) ≡ round rows k
round-next rows zero h = from_zeros (length rows) (length rows) [] rows h tt
round-next rows (suc k) h = refl

zeros-long : (rows : List ThreadRow) → length (zeros rows) ≡ length rows
zeros-long [] = refl
zeros-long (row ∷ rows) = ap suc (zeros-long rows)

zeros-below : (rows : List ThreadRow) (v : List Bound) → length v ≡ length rows → IsAtMost (zeros rows) v
zeros-below [] [] h = tt
zeros-below [] (b ∷ v) h = absurd (omega arith)
zeros-below (row ∷ rows) [] h = absurd (omega arith)
zeros-below (row ∷ rows) (b ∷ v) h = let long : length v ≡ length rows = omega arith in ((zero-le, zero-le), zeros-below rows v long)

zeros-within : (rows : List ThreadRow) → IsWithinLimits rows (zeros rows)
zeros-within [] = tt
zeros-within (row ∷ rows) = ((zero-le, zero-le), zeros-within rows)

before-long : (rows : List ThreadRow) (k : ℕ) → Each (IsRow (length rows)) rows → length (before_round rows k) ≡ length rows
before-long rows zero h = zeros-long rows
before-long rows (suc k) h = rw (← round-next rows k h) (right_sides-long rows (before_round rows k) (before-long rows k h))

before-rises : (rows : List ThreadRow) (k : ℕ) → Each (IsRow (length rows)) rows → IsAtMost (before_round rows k) (round rows k)
before-rises rows zero h = zeros-below rows (round rows 0) (before-long rows 1 h)
before-rises rows (suc k) h =
    let more = right_sides-mono rows (before_round rows k) (round rows k) (before-rises rows k h) in
    rw (round-next rows k h) at more

before-below : (rows : List ThreadRow) (k : ℕ) (u : List Bound) → Meets rows u → IsAtMost (before_round rows k) u
before-below rows zero u h = zeros-below rows u h.0
before-below rows (suc k) u h = round-below rows u k h

-- the sum of all values of a vector
abbrev pub total : List Bound → ℕ
total [] = 0
total (b ∷ v) = b.jitter + b.response + total v

total-mono : (v u : List Bound) → IsAtMost v u → total v ≤ total u
total-mono [] [] h = le_refl 0
total-mono [] (c ∷ u) h = absurd h
total-mono (b ∷ v) [] h = absurd h
total-mono (b ∷ v) (c ∷ u) h =
    let rest : total v ≤ total u = total-mono v u h.1 in
    let jitter : b.jitter ≤ c.jitter = h.0.0 in
    let response : b.response ≤ c.response = h.0.1 in
    omega arith

bound-same : (b c : Bound) → b.jitter ≡ c.jitter → b.response ≡ c.response → b ≡ c
bound-same b c h k = ap (λ j. record { jitter = j; response = b.response }) h ∙ ap (λ r. record { jitter = c.jitter; response = r }) k

total-same : (v u : List Bound) → IsAtMost v u → total u ≤ total v → v ≡ u
total-same [] [] h k = refl
total-same [] (c ∷ u) h k = absurd h
total-same (b ∷ v) [] h k = absurd h
total-same (b ∷ v) (c ∷ u) h k =
    let rest : total v ≤ total u = total-mono v u h.1 in
    let jitter : b.jitter ≤ c.jitter = h.0.0 in
    let response : b.response ≤ c.response = h.0.1 in
    let less : total u ≤ total v = omega arith in
    let first : b ≡ c = bound-same b c (omega arith) (omega arith) in
    let others : v ≡ u = total-same v u h.1 less in
    cc

-- a vector that rises rises by at least a tick
pub total-rises : (rows : List ThreadRow) (k : ℕ) → Each (IsRow (length rows)) rows → (round rows k ≡ before_round rows k → ⊥)
    → total (before_round rows k) < total (round rows k)
total-rises rows k h differs = rises (total (before_round rows k)) (total (round rows k))
    (λ less. differs (sym (total-same (before_round rows k) (round rows k) (before-rises rows k h) less)))
  where
    rises : (a b : ℕ) → (b ≤ a → ⊥) → a < b
    rises a b h = grind arith

-- within their limits all values together are at most as much as all periods
pub total-within : (n : ℕ) (rows : List ThreadRow) (v : List Bound) → Each (IsRow n) rows → IsWithinLimits rows v → total v ≤ length rows * 1000000000
total-within n [] [] h k = zero-le
total-within n [] (b ∷ v) h k = absurd k
total-within n (row ∷ rows) [] h k = absurd k
total-within n (row ∷ rows) (b ∷ v) h k =
    let rest : total v ≤ length rows * 1000000000 = total-within n rows v h.1 k.1 in
    let reach : b.jitter + b.response ≤ row.period = k.0.1 in
    let period : row.period ≤ 1000000000 = h.0.period in
    omega arith

not_over : (i : ℕ) (row : ThreadRow) (b : Bound) (others : Option Excess) → excess_or i row b others ≡ None
    → (b.response ≤ row.deadline) × (b.jitter + b.response ≤ row.period) × (others ≡ None)
not_over i row b others h = go (nat_lt row.deadline b.response) (nat_lt row.period (b.jitter + b.response)) refl refl h
  where
    go : (p q : Bool) → nat_lt row.deadline b.response ≡ p → nat_lt row.period (b.jitter + b.response) ≡ q
        → (if p then Some (record { index = i; which = Deadline; value = b.response; limit = row.deadline }) else if q then Some
        (record { index = i; which = Separation; value = b.jitter + b.response; limit = row.period }) else others) ≡ None
        → (b.response ≤ row.deadline) × (b.jitter + b.response ≤ row.period) × (others ≡ None)
    go true q hp hq e = cc
    go false true hp hq e = cc
    go false false hp hq e = (grind arith, grind arith, e)

-- a vector without an excess is within its limits
pub no_excess-within : (i : ℕ) (rows : List ThreadRow) (v : List Bound) → length v ≡ length rows → first_excess i rows v ≡ None
    → IsWithinLimits rows v
no_excess-within i [] [] h k = tt
no_excess-within i [] (b ∷ v) h k = absurd (omega arith)
no_excess-within i (row ∷ rows) [] h k = absurd (omega arith)
no_excess-within i (row ∷ rows) (b ∷ v) h k =
    let parts = not_over i row b (first_excess (suc i) rows v) k in
    let long : length v ≡ length rows = omega arith in
    ((parts.0, parts.1), no_excess-within (suc i) rows v long parts.2)

-- a vector that is reached before a round, with no value over a limit before
pub record IsReached (rows : List ThreadRow) (k : ℕ) (v : List Bound) : Type 0 where
  pub is : v ≡ before_round rows k
  pub within : IsWithinLimits rows v
  pub earlier : (j : ℕ) → j < k → first_excess 0 rows (round rows j) ≡ None
  pub count : k ≤ total v

-- zeros are reached at first
pub reached-first : (rows : List ThreadRow) (v : List Bound) → v ≡ before_round rows 0 → IsReached rows 0 v
reached-first rows v h = record {
  is = h;
  within = rw h (zeros-within rows);
  earlier = λ j k. absurd (omega arith);
  count = zero-le;
}

reached-round : (rows : List ThreadRow) (k : ℕ) (v : List Bound) → IsTable rows → IsReached rows k v → right_sides rows v ≡ round rows k
reached-round rows k v t h = ap (λ u. right_sides rows u) h.is ∙ round-next rows k t.each

-- its values are few ticks
pub reached-few : (rows : List ThreadRow) (k : ℕ) (v : List Bound) → IsTable rows → IsReached rows k v → total v ≤ 30000000000
reached-few rows k v t h =
    let most : total v ≤ length rows * 1000000000 = total-within (length rows) rows v t.each h.within in
    let count : length rows ≤ 30 = t.count in
    omega arith

-- a round within its limits that differs is reached, and it has risen
pub reached-next : (rows : List ThreadRow) (k : ℕ) (v u : List Bound) → IsTable rows → IsReached rows k v → u ≡ right_sides rows v
    → first_excess 0 rows u ≡ None → (u ≡ v → ⊥)
    → IsReached rows (k + 1) u × (total v < total u)
reached-next rows k v u t h next none differs =
    let is : u ≡ round rows k = next ∙ reached-round rows k v t h in
    let long : length u ≡ length rows = ap length is ∙ before-long rows (suc k) t.each in
    let rises = total-rises rows k t.each (λ e. differs (is ∙ e ∙ sym h.is)) in
    let more : total v < total u = rw (h.is, is) rises in
    let count : k ≤ total v = h.count in (
      record {
        is = rw add-one is;
        within = no_excess-within 0 rows u long none;
        earlier = below_more (λ j. first_excess 0 rows (round rows j) ≡ None) k h.earlier (ap (λ w. first_excess 0 rows w) (sym is) ∙ none);
        count = omega arith;
      },
      more,
    )

-- a vector that the next round doesn't change is the least
pub reached-least : (rows : List ThreadRow) (k : ℕ) (v u : List Bound) → IsTable rows → IsReached rows k v → u ≡ right_sides rows v → u ≡ v
    → IsLeastVector rows v
reached-least rows k v u t h next same = record {
  fits = (
    (
      ap length h.is ∙ before-long rows k t.each,
      (let P : List Bound → Type 0 = λ w. IsAtMost w v
          in subst P (sym same ∙ next) (at_most-refl v)),
    ),
    h.within,
  );
  least = λ w fits. (let P : List Bound → Type 0 = λ z. IsAtMost z w in subst P (sym h.is) (before-below rows k w fits.0));
}

-- a round that goes over a limit is the first
pub reached-miss : (rows : List ThreadRow) (k : ℕ) (v : List Bound) (x : Excess) → IsTable rows → IsReached rows k v
    → first_excess 0 rows (right_sides rows v) ≡ Some x
    → IsMiss rows (record { index = x.index; which = x.which; value = x.value; limit = x.limit; round = k })
reached-miss rows k v x t h over = record {
  earlier = h.earlier;
  over = ap (λ w. first_excess 0 rows w) (sym (reached-round rows k v t h)) ∙ over;
}

bound_eq-Decides : (a b : Bound) → Decides (eq.eq-value.it a b) (a ≡ b)
bound_eq-Decides a b =
    let both = Decides-and _ _ (Decides-eqb a.jitter b.jitter) (Decides-eqb a.response b.response) in
    (λ h. bound-same a b (both.0 h).0 (both.0 h).1, λ e. both.1 (ap (λ x. x.jitter) e, ap (λ x. x.response) e))

-- what `==` says of two vectors
pub bounds_eq-Decides : (v u : List Bound) (r : Bool) → r ≡ pointwise (λ a b. eq.eq-value.it a b) v u → Decides r (v ≡ u)
bounds_eq-Decides v u r h = slice_eq-Decides bound_eq-Decides v u r h

-- vectors that `==` tells apart
pub bounds_differ : (v u : List Bound) (r : Bool) → r ≡ pointwise (λ a b. eq.eq-value.it a b) v u → r ≡ false → v ≡ u → ⊥
bounds_differ v u r h apart same = let told = (bounds_eq-Decides v u r h).1 same in cc
