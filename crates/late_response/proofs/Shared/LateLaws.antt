-- The laws of what is told: the rounds stay below every vector that meets the equations, so solved rows are the least of them.
use Rattle.std.specs.Prelude.{◌≡◌, ℕ, zero, suc, ◌+◌, ◌≤◌, ◌<◌, List, [], ◌∷◌, length, take, zip, fold, slice_get, Option, Some, None, refl}
use Rattle.std.specs.Prelude.{nat_lt, Bool, true, false, option_map, get_or}
use Rattle.std.specs.List.{AllZip}
use Rattle.std.proofs.Common.{sym, ◌∙◌, ap, ap₂, subst, arith, le_refl, ◌⊎◌, inl, inr}
use Rattle.std.proofs.lemmas.Option.{slice_get_within, slice_get-get_or, slice_get-map}
use lib.Pointwise.{pointwise}
use Rattle.rt_response.specs.contracts.rows.BoundPartialEq.TheImpl as eq
use Rattle.rt_response.specs.declared.rows.ThreadRow.{ThreadRow}
use Rattle.rt_response.specs.declared.rows.Bound.{Bound}
use Rattle.rt_response.specs.declared.excess.Excess.{Excess}
use Rattle.rt_response.specs.Tables.{IsTable}
use Rattle.rt_response.specs.Response.{Entry, interference, inherited, jitter_by, right_sides, IsAtMost, IsWithinLimits, IsLeastVector}
use Rattle.rt_response.specs.Rounds.{first_jitter, round, before_round, first_excess}
use Rattle.rt_response.proofs.Shared.Least.{round-below, at_most-refl, miss-none_fits}
use Rattle.rt_response.proofs.Shared.Solving.{total, IsReached, reached-first, reached-next, reached-least, reached-miss, reached-few}
use Rattle.rt_response.proofs.Shared.Solving.{round-next, bounds_eq-Decides, bounds_differ}
use Rattle.late_response.specs.declared.reach.Reach.{Reach}
use Rattle.late_response.specs.declared.reach.Reach.TheVariants.{Solved, Beyond, Behind}
use Rattle.late_response.specs.Late.{IsNear, IsFar, OfBoth, Needs, DependsOn, itself, through, IsWithin, IsOver, IsSolved, IsBeyond, IsBehind}
use Rattle.late_response.specs.Laws.{SolvedIsLeast, HasJitter, AreAbove, SolvedMeetsItsEquation, AreSolved, SolvedInTimeIsLeast}
use Rattle.late_response.specs.Laws.{LeastIsSolved, BeyondIsLate, ToldOnce, TableToldOnce}
use Rattle.late_response.specs.Progress.{StartsAt}
use Rattle.late_response.proofs.Shared.Places.{some-same, some-none, at_most-at, round-long, rounds-rise, round-suc, round-has, starts-within}
use Rattle.late_response.proofs.Shared.Places.{needs-starts, of-both, from-both}

pub solved-least : SolvedIsLeast
solved-least rows i b c u solved meets at =
    at_most-at (round rows solved.from) u i b c (round-below rows u solved.from meets) (solved.rests solved.from (le_refl solved.from)) at

-- what is over ten times a limit is so where it rises
far-mono : (row : ThreadRow) (b c : Bound) → (b.jitter ≤ c.jitter) × (b.response ≤ c.response) → IsFar row b → IsFar row c
far-mono row b c h (inl far) = inl (omega (arith, h.1, far))
far-mono row b c h (inr far) = inr (omega (arith, h.0, h.1, far))

pub beyond-late : BeyondIsLate
beyond-late rows i k row b c u beyond meets is at =
    far-mono row b c (at_most-at (round rows k) u i b c (round-below rows u k meets) beyond.told at)
    (from-both IsFar _ _ row b is beyond.told beyond.over)

-- SOLVED ROWS WITHIN THE LIMITS
-- two vectors with the same element at each place
pub same-places : {A : Type 0} (v u : List A) → length v ≡ length u → ((i : ℕ) (x : A) → slice_get v i ≡ Some x → slice_get u i ≡ Some x) → v ≡ u
same-places [] [] h k = refl
same-places [] (y ∷ u) h k = absurd (omega arith)
same-places (x ∷ v) [] h k = absurd (omega arith)
same-places (x ∷ v) (y ∷ u) h k =
    let first : y ≡ x = some-same (k 0 x refl) in
    let rest : v ≡ u = same-places v u (omega arith) (λ i z e. k (suc i) z e) in
    ap₂ (λ a l. a ∷ l) (sym first) rest

-- a number below the next of another is below that or is it
last-or : (i n : ℕ) → i < suc n → (i < n) ⊎ (i ≡ n)
last-or i n h = go (nat_lt i n) refl
  where
    go : (p : Bool) → nat_lt i n ≡ p → (i < n) ⊎ (i ≡ n)
    go true e = inl (grind arith)
    go false e = inr (grind arith)

-- a round from which the first rows rest
record RestFrom (rows : List ThreadRow) (v : List Bound) (n : ℕ) : Type 0 where
  pub from : ℕ
  pub rests : (i m : ℕ) (b : Bound) → i < n → from ≤ m → slice_get v i ≡ Some b → slice_get (round rows m) i ≡ Some b

rests-more : (rows : List ThreadRow) (v : List Bound) (n : ℕ) (o : Option Bound) → AreSolved rows v → slice_get v n ≡ o → RestFrom rows v n
    → RestFrom rows v (suc n)
rests-more rows v n None solved e r = record { from = r.from; rests = rests }
  where
    rests : (i m : ℕ) (b : Bound) → i < suc n → r.from ≤ m → slice_get v i ≡ Some b → slice_get (round rows m) i ≡ Some b
    rests i m b less up at = by (last-or i n less)
      where
        by : (i < n) ⊎ (i ≡ n) → slice_get (round rows m) i ≡ Some b
        by (inl h) = r.rests i m b h up at
        by (inr h) = absurd (some-none (sym at ∙ ap (λ k. slice_get v k) h ∙ e))
rests-more rows v n (Some c) solved e r = record { from = r.from + (solved.each n c e).from; rests = rests }
  where
    rests : (i m : ℕ) (b : Bound) → i < suc n → r.from + (solved.each n c e).from ≤ m → slice_get v i ≡ Some b
        → slice_get (round rows m) i ≡ Some b
    rests i m b less up at = by (last-or i n less)
      where
        by : (i < n) ⊎ (i ≡ n) → slice_get (round rows m) i ≡ Some b
        by (inl h) = r.rests i m b h (omega arith) at
        by (inr h) =
            let here = (solved.each n c e).rests m (omega arith) in
            ap (λ k. slice_get (round rows m) k) h ∙ here ∙ sym e ∙ ap (λ k. slice_get v k) (sym h) ∙ at

first-rests : (rows : List ThreadRow) (v : List Bound) (n : ℕ) → AreSolved rows v → RestFrom rows v n
first-rests rows v zero solved = record { from = 0; rests = λ i m b less up at. absurd (omega (arith, less)) }
first-rests rows v (suc n) solved = rests-more rows v n (slice_get v n) solved refl (first-rests rows v n solved)

pub solved-in-time : SolvedInTimeIsLeast
solved-in-time rows v solved within =
    let r = first-rests rows v (length v) solved in
    let is_round : (m : ℕ) → r.from ≤ m → v ≡ round rows m = λ m up. same-places v (round rows m) (solved.long ∙ sym (round-long rows m))
    (λ i x e. r.rests i m x (slice_get_within v i x e) up e) in
    let same = is_round r.from (le_refl r.from) in
    let next = is_round (suc r.from) (omega arith) in
    let sides : right_sides rows v ≡ v = ap (λ w. right_sides rows w) same ∙ sym next in
    record {
      fits = ((solved.long, subst (λ w. IsAtMost w v) (sym sides) (at_most-refl v)), within);
      least = λ u fits. subst (λ w. IsAtMost w u) (sym same) (round-below rows u r.from fits.0);
    }

-- THE LEAST VECTOR IS SOLVED
-- a vector at which the rounds rest
record Rested (rows : List ThreadRow) : Type 0 where
  pub count : ℕ
  pub vector : List Bound
  pub reached : IsReached rows count vector
  pub rests : right_sides rows vector ≡ vector

find-turn : (rows : List ThreadRow) (v : List Bound) (fuel k : ℕ) (u : List Bound) → IsTable rows → IsLeastVector rows v → IsReached rows k u
    → 30000000000 < suc fuel + total u
    → ((k : ℕ) (u : List Bound) → IsReached rows k u → 30000000000 < fuel + total u → Rested rows) → Rested rows
find-turn rows v fuel k u table least reached h more = by (first_excess 0 rows (right_sides rows u)) refl
  where
    decide : (p : Bool) → p ≡ pointwise (λ a b. eq.eq-value.it a b) (right_sides rows u) u → first_excess 0 rows (right_sides rows u) ≡ None
        → Rested rows
    decide true d e = record { count = k; vector = u; reached = reached; rests = (bounds_eq-Decides (right_sides rows u) u true d).0 refl }
    decide false d e =
        let next = reached-next rows k u (right_sides rows u) table reached refl e (bounds_differ (right_sides rows u) u false d refl) in
        more (k + 1) (right_sides rows u) next.0 (omega (arith, h, next.1))

    by : (o : Option Excess) → first_excess 0 rows (right_sides rows u) ≡ o → Rested rows
    by None e = decide (pointwise (λ a b. eq.eq-value.it a b) (right_sides rows u) u) refl e
    by (Some x) e = absurd (miss-none_fits rows _ v (reached-miss rows k u x table reached e) least.fits)

find : (rows : List ThreadRow) (v : List Bound) (fuel k : ℕ) (u : List Bound) → IsTable rows → IsLeastVector rows v → IsReached rows k u
    → 30000000000 < fuel + total u → Rested rows
find rows v zero k u table least reached h = absurd (omega (arith, h, reached-few rows k u table reached))
find rows v (suc fuel) k u table least reached h =
    find-turn rows v fuel k u table least reached h (λ k' u' reached' h'. find rows v fuel k' u' table least reached' h')

-- from then on each round is that vector
rests-on : (rows : List ThreadRow) (r : Rested rows) → IsTable rows → (m : ℕ) → r.count ≤ m → round rows m ≡ r.vector
rests-on rows r table zero up =
    let same : r.count ≡ 0 = omega arith in
    subst (λ k. round rows k ≡ r.vector) same
    (sym (round-next rows r.count table.each) ∙ ap (λ v. right_sides rows v) (sym r.reached.is) ∙ r.rests)
rests-on rows r table (suc m) up = go (nat_lt m r.count) refl (rests-on rows r table m)
  where
    go : (p : Bool) → nat_lt m r.count ≡ p → (r.count ≤ m → round rows m ≡ r.vector) → round rows (suc m) ≡ r.vector
    go true e before =
        let same : r.count ≡ suc m = grind arith in
        subst (λ k. round rows k ≡ r.vector) same
        (sym (round-next rows r.count table.each) ∙ ap (λ v. right_sides rows v) (sym r.reached.is) ∙ r.rests)
    go false e before = ap (λ v. right_sides rows v) (before (grind arith)) ∙ r.rests

-- what a row depends on is one of the rows
depends-within : (rows : List ThreadRow) (i j : ℕ) → IsTable rows → i < length rows → DependsOn rows i j → j < length rows
depends-within rows i j table h itself = h
depends-within rows i j table h (through {starter = s} needs more) =
    depends-within rows s j table (starts-within rows needs.place s table (needs-starts rows i s needs)) more

limits-at : (rows : List ThreadRow) (v : List Bound) (i : ℕ) (row : ThreadRow) (b : Bound) → IsWithinLimits rows v → slice_get rows i ≡ Some row
    → slice_get v i ≡ Some b → (b.response ≤ row.deadline) × (b.jitter + b.response ≤ row.period)
limits-at [] v i row b h e f = absurd (some-none (sym e))
limits-at (x ∷ rows) [] i row b h e f = absurd h
limits-at (x ∷ rows) (y ∷ v) zero row b h e f =
    subst (λ z. (b.response ≤ z.deadline) × (b.jitter + b.response ≤ z.period)) (some-same e)
    (subst (λ w. (w.response ≤ x.deadline) × (w.jitter + w.response ≤ x.period)) (some-same f) h.0)
limits-at (x ∷ rows) (y ∷ v) (suc i) row b h e f = limits-at rows v i row b h.1 e f

-- a round below a vector within the limits is within ten times them
below-within : (rows : List ThreadRow) (v : List Bound) (k j : ℕ) → IsLeastVector rows v → j < length rows → IsWithin rows k j
below-within rows v k j least inside =
    let blank : ThreadRow = record { period = 0; deadline = 0; jitter = 0; cost = 0; block = 0; starter = None } in
    let is = slice_get-get_or rows j blank inside in
    let has = round-has rows k j inside in
    let long : j < length v = omega (arith, least.fits.0.0) in
    let at = slice_get-get_or v j (record { jitter = 0; response = 0 }) long in
    let less = at_most-at (round rows k) v j _ _ (round-below rows v k least.fits.0) has.1 at in
    let limits = limits-at rows v j _ _ least.fits.1 is at in
    of-both IsNear _ _ _ _ is has.1 (omega (arith, less.1, limits.0), omega (arith, less.0, less.1, limits.1))

same-bound : (b c : Bound) → (b.jitter ≤ c.jitter) × (b.response ≤ c.response) → (c.jitter ≤ b.jitter) × (c.response ≤ b.response) → b ≡ c
same-bound b c h k =
    let jitter : b.jitter ≡ c.jitter = omega (arith, h.0, k.0) in
    let response : b.response ≡ c.response = omega (arith, h.1, k.1) in
    ap₂ (λ j r. record { jitter = j; response = r }) jitter response

at_most-same : (v u : List Bound) → IsAtMost v u → IsAtMost u v → v ≡ u
at_most-same [] [] h k = refl
at_most-same [] (c ∷ u) h k = absurd h
at_most-same (b ∷ v) [] h k = absurd h
at_most-same (b ∷ v) (c ∷ u) h k = ap₂ (λ a l. a ∷ l) (same-bound b c h.0 k.0) (at_most-same v u h.1 k.1)

pub least-solved : LeastIsSolved
least-solved rows v table least =
    let r = find rows v 30000000001 0 (before_round rows 0) table least (reached-first rows (before_round rows 0) refl) (omega arith) in
    let other = reached-least rows r.count r.vector (right_sides rows r.vector) table r.reached refl r.rests in
    let same : r.vector ≡ v = at_most-same r.vector v (other.least v least.fits) (least.least r.vector other.fits) in
    record {
      long = least.fits.0.0;
      each = λ i b at. record {
        from = r.count;
        rests = λ k up. ap (λ w. slice_get w i) (rests-on rows r table k up ∙ same) ∙ at;
        followed = λ k j dep. (let inside : i < length rows = omega (arith, slice_get_within v i b at, least.fits.0.0) in
            below-within rows v k j least (depends-within rows i j table inside dep));
      };
    }

-- A SOLVED ROW MEETS ITS EQUATION
-- where the sum of the two rests while both rise, both rest
sum-rests : (b c : Bound) → (b.jitter ≤ c.jitter) × (b.response ≤ c.response) → b.jitter + b.response ≡ c.jitter + c.response → b ≡ c
sum-rests b c h e = same-bound b c h (omega (arith, h.0, h.1, e), omega (arith, h.0, h.1, e))

-- the starter of a solved row is solved, and the row's jitter is the sum of its two numbers
starter-solved : (rows : List ThreadRow) (i s : ℕ) (row : ThreadRow) (b : Bound) → IsTable rows → IsSolved rows i b → slice_get rows i ≡ Some row
    → row.starter ≡ Some s → (c : Bound) × IsSolved rows s c × (b.jitter ≡ c.jitter + c.response)
starter-solved rows i s row b table solved is started = (
  first.0,
  record { from = solved.from; rests = rests; followed = λ k j dep. solved.followed k j (through needs dep) },
  sum solved.from (le_refl solved.from) first.0 first.1,
)
  where
    starts : StartsAt rows i s
    starts = record { row = row; is = is; started = started }

    needs : Needs rows i s
    needs = record { place = i; row = row; up = le_refl i; is = is; started = started }

    has : (m : ℕ) → (c : Bound) × (slice_get (round rows m) s ≡ Some c)
    has m = round-has rows m s (starts-within rows i s table starts)

    first : (c : Bound) × (slice_get (round rows solved.from) s ≡ Some c)
    first = has solved.from

    sum : (m : ℕ) → solved.from ≤ m → (c : Bound) → slice_get (round rows m) s ≡ Some c → b.jitter ≡ c.jitter + c.response
    sum m up c at =
        let side = round-suc rows m i row b is (solved.rests m up) in
        ap (λ z. z.jitter) (some-same (sym (solved.rests (suc m) (omega arith)) ∙ side)) ∙ ap (λ o. jitter_by (round rows m) row o) started
        ∙ ap inherited at

    rests : (m : ℕ) → solved.from ≤ m → slice_get (round rows m) s ≡ Some first.0
    rests zero up = let same : solved.from ≡ 0 = omega arith in subst (λ k. slice_get (round rows k) s ≡ Some first.0) same first.1
    rests (suc m) up = go (nat_lt m solved.from) refl (rests m)
      where
        go : (p : Bool) → nat_lt m solved.from ≡ p → (solved.from ≤ m → slice_get (round rows m) s ≡ Some first.0)
            → slice_get (round rows (suc m)) s ≡ Some first.0
        go true e before =
            let same : solved.from ≡ suc m = grind arith in subst (λ k. slice_get (round rows k) s ≡ Some first.0) same first.1
        go false e before =
            let up : solved.from ≤ m = grind arith in
            let next = has (suc m) in
            let rise = at_most-at (round rows m) (round rows (suc m)) s first.0 next.0 (rounds-rise rows m table.each) (before up) next.1 in
            let stays : first.0.jitter + first.0.response ≡ next.0.jitter + next.0.response
            = sym (sum m up first.0 (before up)) ∙ sum (suc m) (omega arith) next.0 next.1 in
            next.1 ∙ ap (λ z. Some z) (sym (sum-rests first.0 next.0 rise stays))

has-jitter : (rows : List ThreadRow) (i : ℕ) (row : ThreadRow) (b : Bound) → IsTable rows → IsSolved rows i b → slice_get rows i ≡ Some row
    → HasJitter rows row row.starter b.jitter
has-jitter rows i row b table solved is = by row.starter refl
  where
    by : (o : Option ℕ) → row.starter ≡ o → HasJitter rows row o b.jitter
    by None e =
        let side = round-suc rows solved.from i row b is (solved.rests solved.from (le_refl solved.from)) in
        ap (λ z. z.jitter) (some-same (sym (solved.rests (suc solved.from) (omega arith)) ∙ side))
        ∙ ap (λ o. jitter_by (round rows solved.from) row o) e
    by (Some s) e = starter-solved rows i s row b table solved is e

-- a round from which the jitter of a row is this one
record JitterFrom (rows : List ThreadRow) (place n : ℕ) : Type 0 where
  pub from : ℕ
  pub is : (m : ℕ) (c : Bound) → from ≤ m → slice_get (round rows m) place ≡ Some c → c.jitter ≡ n

jitter-from : (rows : List ThreadRow) (place n : ℕ) (row : ThreadRow) (o : Option ℕ) → slice_get rows place ≡ Some row → row.starter ≡ o
    → HasJitter rows row o n → JitterFrom rows place n
jitter-from rows place n row None is e h = record { from = 0; is = own }
  where
    own : (m : ℕ) (c : Bound) → 0 ≤ m → slice_get (round rows m) place ≡ Some c → c.jitter ≡ n
    own zero c up at =
        let first = slice_get-map (λ r. record { jitter = first_jitter r.jitter r.starter; response = r.block + r.cost }) rows place
        ∙ ap (λ z. option_map (λ r. record { jitter = first_jitter r.jitter r.starter; response = r.block + r.cost }) z) is in
        ap (λ z. z.jitter) (some-same (sym at ∙ first)) ∙ ap (λ s. first_jitter row.jitter s) e ∙ sym h
    own (suc m) c up at =
        let has = round-has rows m place (slice_get_within rows place row is) in
        ap (λ z. z.jitter) (some-same (sym at ∙ round-suc rows m place row has.0 is has.1)) ∙ ap (λ s. jitter_by (round rows m) row s) e ∙ sym h
jitter-from rows place n row (Some s) is e h = record { from = suc h.1.from; is = given }
  where
    given : (m : ℕ) (c : Bound) → suc h.1.from ≤ m → slice_get (round rows m) place ≡ Some c → c.jitter ≡ n
    given zero c up at = absurd (omega arith)
    given (suc m) c up at =
        let has = round-has rows m place (slice_get_within rows place row is) in
        ap (λ z. z.jitter) (some-same (sym at ∙ round-suc rows m place row has.0 is has.1)) ∙ ap (λ o. jitter_by (round rows m) row o) e
        ∙ ap inherited (h.1.rests m (omega arith)) ∙ sym h.2

above-at : (all rows : List ThreadRow) (i p : ℕ) (es : List Entry) (row : ThreadRow) (e : Entry)
    → AllZip (λ row e. (e.0 ≡ row) × HasJitter all row row.starter e.1.jitter) (take i rows) es → p < i → slice_get rows p ≡ Some row
    → slice_get es p ≡ Some e → HasJitter all row row.starter e.1.jitter
above-at all rows zero p es row e h less is at = absurd (omega arith)
above-at all [] (suc i) p es row e h less is at = absurd (some-none (sym is))
above-at all (x ∷ rows) (suc i) p [] row e h less is at = absurd h
above-at all (x ∷ rows) (suc i) zero (y ∷ es) row e h less is at =
    subst (λ r. HasJitter all r r.starter e.1.jitter) (some-same is)
    (subst (λ z. HasJitter all x x.starter z.1.jitter) (some-same at) h.0.1)
above-at all (x ∷ rows) (suc i) (suc p) (y ∷ es) row e h less is at = above-at all rows i p es row e h.1 (omega arith) is at

-- a round from which the jitters of the first rows are those of these entries
record JittersFrom (rows : List ThreadRow) (es : List Entry) (n : ℕ) : Type 0 where
  pub from : ℕ
  pub are : (p m : ℕ) (e : Entry) (c : Bound) → p < n → from ≤ m → slice_get es p ≡ Some e → slice_get (round rows m) p ≡ Some c
      → c.jitter ≡ e.1.jitter

jitters-more : (rows : List ThreadRow) (es : List Entry) (i n : ℕ) (o : Option ThreadRow) (q : Option Entry) → n < i → AreAbove rows i es
    → slice_get rows n ≡ o → slice_get es n ≡ q → JittersFrom rows es n → JittersFrom rows es (suc n)
jitters-more rows es i n None q less above e f r = record { from = r.from; are = are }
  where
    are : (p m : ℕ) (x : Entry) (c : Bound) → p < suc n → r.from ≤ m → slice_get es p ≡ Some x → slice_get (round rows m) p ≡ Some c
        → c.jitter ≡ x.1.jitter
    are p m x c low up at told = by (last-or p n low)
      where
        by : (p < n) ⊎ (p ≡ n) → c.jitter ≡ x.1.jitter
        by (inl h) = r.are p m x c h up at told
        by (inr h) =
            let inside : n < length rows = omega (arith, h, slice_get_within (round rows m) p c told, round-long rows m) in
            let blank : ThreadRow = record { period = 0; deadline = 0; jitter = 0; cost = 0; block = 0; starter = None } in
            absurd (some-none (sym (slice_get-get_or rows n blank inside) ∙ e))
jitters-more rows es i n (Some row) None less above e f r = record { from = r.from; are = are }
  where
    are : (p m : ℕ) (x : Entry) (c : Bound) → p < suc n → r.from ≤ m → slice_get es p ≡ Some x → slice_get (round rows m) p ≡ Some c
        → c.jitter ≡ x.1.jitter
    are p m x c low up at told = by (last-or p n low)
      where
        by : (p < n) ⊎ (p ≡ n) → c.jitter ≡ x.1.jitter
        by (inl h) = r.are p m x c h up at told
        by (inr h) = absurd (some-none (sym at ∙ ap (λ k. slice_get es k) h ∙ f))
jitters-more rows es i n (Some row) (Some entry) less above e f r = record { from = r.from + here.from; are = are }
  where
    here : JitterFrom rows n entry.1.jitter
    here = jitter-from rows n entry.1.jitter row row.starter e refl (above-at rows rows i n es row entry above less e f)

    are : (p m : ℕ) (x : Entry) (c : Bound) → p < suc n → r.from + here.from ≤ m → slice_get es p ≡ Some x → slice_get (round rows m) p ≡ Some c
        → c.jitter ≡ x.1.jitter
    are p m x c low up at told = by (last-or p n low)
      where
        by : (p < n) ⊎ (p ≡ n) → c.jitter ≡ x.1.jitter
        by (inl h) = r.are p m x c h (omega arith) at told
        by (inr h) =
            let same : entry ≡ x = some-same (sym f ∙ ap (λ k. slice_get es k) (sym h) ∙ at) in
            here.is m c (omega arith) (ap (λ k. slice_get (round rows m) k) (sym h) ∙ told) ∙ ap (λ z. z.1.jitter) same

jitters-from : (rows : List ThreadRow) (es : List Entry) (i n : ℕ) → n ≤ i → AreAbove rows i es → JittersFrom rows es n
jitters-from rows es i zero up above = record { from = 0; are = λ p m e c less more at told. absurd (omega (arith, less)) }
jitters-from rows es i (suc n) up above =
    jitters-more rows es i n (slice_get rows n) (slice_get es n) (omega arith) above refl refl (jitters-from rows es i n (omega arith) above)

-- what the rows above take rests on their jitters alone
same-above : (all : List ThreadRow) (w a c i : ℕ) (rows : List ThreadRow) (v : List Bound) (es : List Entry) → a ≡ c → length v ≡ length rows
    → AllZip (λ row e. (e.0 ≡ row) × HasJitter all row row.starter e.1.jitter) (take i rows) es
    → ((p : ℕ) (e : Entry) (b : Bound) → p < i → slice_get es p ≡ Some e → slice_get v p ≡ Some b → b.jitter ≡ e.1.jitter)
    → fold (λ n e. n + interference w e) a (zip (take i rows) (take i v)) ≡ fold (λ n e. n + interference w e) c es
same-above all w a c zero rows v [] h long above same = h
same-above all w a c zero rows v (e ∷ es) h long above same = absurd above
same-above all w a c (suc i) [] v [] h long above same = h
same-above all w a c (suc i) [] v (e ∷ es) h long above same = absurd above
same-above all w a c (suc i) (row ∷ rows) [] es h long above same = absurd (omega arith)
same-above all w a c (suc i) (row ∷ rows) (b ∷ v) [] h long above same = absurd above
same-above all w a c (suc i) (row ∷ rows) (b ∷ v) (e ∷ es) h long above same =
    let jitter : b.jitter ≡ e.1.jitter = same 0 e b (omega arith) refl refl in
    let row_same : row ≡ e.0 = sym above.0.0 in
    let first : interference w (row, b) ≡ interference w e
    = ap (λ j. interference w (row, record { jitter = j; response = 0 })) jitter
    ∙ ap (λ r. interference w (r, record { jitter = e.1.jitter; response = 0 })) row_same in
    same-above all w (a + interference w (row, b)) (c + interference w e) i rows v es (ap₂ (λ n m. n + m) h first) (omega arith) above.1
    (λ p d z less f g. same (suc p) d z (omega (arith, less)) f g)

pub solved-equation : SolvedMeetsItsEquation
solved-equation rows i row b es table solved is above =
    let r = jitters-from rows es i i (le_refl i) above in
    let m = solved.from + r.from in
    let side = round-suc rows m i row b is (solved.rests m (omega arith)) in
    let same = some-same (sym (solved.rests (suc m) (omega arith)) ∙ side) in
    let sums = same-above rows b.response 0 0 i rows (round rows m) es refl (round-long rows m) above
    (λ p e c less at told. r.are p m e c less (omega arith) at told) in
    (has-jitter rows i row b table solved is, ap (λ z. z.response) same ∙ ap (λ n. row.block + row.cost + n) sums)

-- WHAT IS TOLD IS TOLD ONCE
far-or-near : (row : ThreadRow) (b : Bound) → IsNear row b → IsFar row b → ⊥
far-or-near row b near (inl far) = omega (arith, near.0, far)
far-or-near row b near (inr far) = omega (arith, near.1, far)

pub over-or-within : (rows : List ThreadRow) (k i : ℕ) → IsWithin rows k i → IsOver rows k i → ⊥
over-or-within rows k i within over = by (slice_get rows i) (slice_get (round rows k) i) within over
  where
    by : (o : Option ThreadRow) (q : Option Bound) → OfBoth IsNear o q → OfBoth IsFar o q → ⊥
    by None q h k = h
    by (Some row) None h k = h
    by (Some row) (Some b) h k = far-or-near row b h k

-- a number is below another, it, or above it
three : (P : Type 0) (a b : ℕ) → (a < b → P) → (a ≡ b → P) → (b < a → P) → P
three P a b less same more = go (nat_lt a b) (nat_lt b a) refl refl
  where
    go : (p q : Bool) → nat_lt a b ≡ p → nat_lt b a ≡ q → P
    go true q e f = less (grind arith)
    go false true e f = more (grind arith)
    go false false e f = same (grind arith)

pub rests-once : (rows : List ThreadRow) (i : ℕ) (b c : Bound) → IsSolved rows i b → IsSolved rows i c → b ≡ c
rests-once rows i b c h k = some-same (sym (h.rests (h.from + k.from) (omega arith)) ∙ k.rests (h.from + k.from) (omega arith))

solved-not-beyond : (rows : List ThreadRow) (i k : ℕ) (b c : Bound) → IsSolved rows i b → IsBeyond rows i k c → ⊥
solved-not-beyond rows i k b c h beyond = over-or-within rows k i (h.followed k i itself) beyond.over

solved-not-behind : (rows : List ThreadRow) (i s : ℕ) (b : Bound) → IsSolved rows i b → IsBehind rows i s → ⊥
solved-not-behind rows i s b h behind =
    over-or-within rows behind.round behind.lost.0 (h.followed behind.round behind.lost.0 (through behind.needs behind.lost.1)) behind.lost.2

beyond-not-behind : (rows : List ThreadRow) (i k s : ℕ) (b : Bound) → IsBeyond rows i k b → IsBehind rows i s → ⊥
beyond-not-behind rows i k s b beyond behind =
    three ⊥ k behind.round (λ less. over-or-within rows k i (behind.followed k less i itself) beyond.over)
    (λ same. over-or-within rows k i (subst (λ m. IsWithin rows m i) (sym same) behind.within) beyond.over)
    (λ more. over-or-within rows behind.round behind.lost.0 (beyond.followed behind.round more behind.lost.0 (through behind.needs behind.lost.1))
    behind.lost.2)

given-up-once : (rows : List ThreadRow) (i k m : ℕ) (b c : Bound) → IsBeyond rows i k b → IsBeyond rows i m c → (k ≡ m) × (b ≡ c)
given-up-once rows i k m b c h g =
    three ((k ≡ m) × (b ≡ c)) k m (λ less. absurd (over-or-within rows k i (g.followed k less i itself) h.over))
    (λ same. (same, some-same (sym h.told ∙ ap (λ n. slice_get (round rows n) i) same ∙ g.told)))
    (λ more. absurd (over-or-within rows m i (h.followed m more i itself) g.over))

-- a row is behind one starter
behind-round : (rows : List ThreadRow) (i s t : ℕ) (h : IsBehind rows i s) (g : IsBehind rows i t) → h.round < g.round → ⊥
behind-round rows i s t h g less = over-or-within rows h.round h.lost.0 (g.followed h.round less h.lost.0 (through h.needs h.lost.1)) h.lost.2

behind-place : (rows : List ThreadRow) (i s t : ℕ) (h : IsBehind rows i s) (g : IsBehind rows i t) → h.round ≡ g.round
    → h.needs.place < g.needs.place → ⊥
behind-place rows i s t h g same less =
    let needs : Needs rows h.needs.place s = record {
      place = h.needs.place;
      row = h.needs.row;
      up = le_refl h.needs.place;
      is = h.needs.is;
      started = h.needs.started;
    } in
    over-or-within rows h.round h.lost.0
    (subst (λ m. IsWithin rows m h.lost.0) (sym same) (g.first h.needs.place s less needs h.lost.0 h.lost.1)) h.lost.2

behind-once : (rows : List ThreadRow) (i s t : ℕ) → IsBehind rows i s → IsBehind rows i t → s ≡ t
behind-once rows i s t h g =
    let round : h.round ≡ g.round
    = three (h.round ≡ g.round) h.round g.round (λ less. absurd (behind-round rows i s t h g less)) (λ same. same)
    (λ more. absurd (behind-round rows i t s g h more)) in
    let place : h.needs.place ≡ g.needs.place
    = three (h.needs.place ≡ g.needs.place) h.needs.place g.needs.place (λ less. absurd (behind-place rows i s t h g round less)) (λ same. same)
    (λ more. absurd (behind-place rows i t s g h (sym round) more)) in
    let row : h.needs.row ≡ g.needs.row = some-same (sym h.needs.is ∙ ap (λ p. slice_get rows p) place ∙ g.needs.is) in
    some-same (sym h.needs.started ∙ ap (λ r. r.starter) row ∙ g.needs.started)

pub told-once : ToldOnce
told-once rows i (Solved j r) (Solved j' r') h g =
    let same = rests-once rows i _ _ h g in ap (λ b. Solved b.jitter b.response) same
told-once rows i (Solved j r) (Beyond k j' r') h g = absurd (solved-not-beyond rows i k _ _ h g)
told-once rows i (Solved j r) (Behind s) h g = absurd (solved-not-behind rows i s _ h g)
told-once rows i (Beyond k j r) (Solved j' r') h g = absurd (solved-not-beyond rows i k _ _ g h)
told-once rows i (Beyond k j r) (Beyond m j' r') h g =
    let same = given-up-once rows i k m _ _ h g in ap₂ (λ n b. Beyond n b.jitter b.response) same.0 same.1
told-once rows i (Beyond k j r) (Behind s) h g = absurd (beyond-not-behind rows i k s _ h g)
told-once rows i (Behind s) (Solved j r) h g = absurd (solved-not-behind rows i s _ g h)
told-once rows i (Behind s) (Beyond k j r) h g = absurd (beyond-not-behind rows i k s _ g h)
told-once rows i (Behind s) (Behind t) h g = ap (λ z. Behind z) (behind-once rows i s t h g)

-- so one list is told of a table
pub table-told-once : TableToldOnce
table-told-once rows found others h g =
    same-places found others (h.long ∙ sym g.long) (λ i r at.
    let inside : i < length others = omega (arith, slice_get_within found i r at, h.long, g.long) in
    let here = slice_get-get_or others i r inside in
    here ∙ ap (λ z. Some z) (sym (told-once rows i r (get_or others i r) (h.each i r at) (g.each i (get_or others i r) here))))
