-- A vector that fits rows fits rows that ask no more, and the least vector of those is nowhere above.
use Rattle.std.proofs.Common.{◌≡◌, ◌≤◌, ℕ, ◌+◌, ◌*◌, List, [], ◌∷◌, ◌++◌, length, refl, ap, ◌∙◌, subst, arith, le_refl, le_trans, add-le-add}
use Rattle.std.proofs.Common.{Option, Some, None}
use Rattle.std.specs.Prelude.{fold, sum_by, zip}
use Rattle.std.specs.Int.{div_ceil}
use Rattle.std.specs.List.{AllZip}
use Rattle.std.proofs.lemmas.Slice.Zip.{AllZip-long}
use Rattle.rt_response.specs.declared.rows.ThreadRow.{ThreadRow}
use Rattle.rt_response.specs.declared.rows.Bound.{Bound}
use Rattle.rt_response.specs.Response.{Entry, interference, response_after, jitter_by, sides_after, right_sides, IsAtMost, IsWithinLimits, Fits}
use Rattle.rt_response.specs.Response.{IsLeastVector}
use Rattle.law_scaling.specs.Rows.{AsksNoMore, AskNoMore}

-- entries with one bound whose rows ask no more
abbrev Less : Entry → Entry → Type 0
Less e f = AsksNoMore e.0 f.0 × (e.1 ≡ f.1)

times : (n a b : ℕ) → a ≤ b → n * a ≤ n * b
times n a b h = grind (arith, h)

interference-less : (window : ℕ) (e f : Entry) → Less e f → interference window e ≤ interference window f
interference-less window e f h =
    let same : div_ceil (window + e.1.jitter) e.0.period ≡ div_ceil (window + f.1.jitter) f.0.period
    = ap (λ b. div_ceil (window + b.jitter) e.0.period) h.1 ∙ ap (λ p. div_ceil (window + f.1.jitter) p) h.0.period in
    let more = times (div_ceil (window + e.1.jitter) e.0.period) e.0.cost f.0.cost h.0.cost in
    subst (λ n. div_ceil (window + e.1.jitter) e.0.period * e.0.cost ≤ n * f.0.cost) same more

sum-less : (window a b : ℕ) (es fs : List Entry) → a ≤ b → AllZip Less es fs
    → fold (λ n x. n + interference window x) a es ≤ fold (λ n x. n + interference window x) b fs
sum-less window a b [] [] h k = h
sum-less window a b [] (f ∷ fs) h k = absurd k
sum-less window a b (e ∷ es) [] h k = absurd k
sum-less window a b (e ∷ es) (f ∷ fs) h k =
    sum-less window (a + interference window e) (b + interference window f) es fs (add-le-add h (interference-less window e f k.0)) k.1

response-less : (bs cs : List Entry) (e f : Entry) → AllZip Less bs cs → Less e f → response_after bs e ≤ response_after cs f
response-less bs cs e f h k =
    let sums : sum_by (interference e.1.response) bs ≤ sum_by (interference e.1.response) cs = sum-less e.1.response 0 0 bs cs (le_refl 0) h in
    let same = ap (λ (b : Bound). sum_by (interference b.response) cs) k.1 in
    omega (arith, sums, same, k.0.block, k.0.cost)

jitter-less : (u : List Bound) (a b : ThreadRow) → AsksNoMore a b → jitter_by u a a.starter ≤ jitter_by u b b.starter
jitter-less u a b h = subst (λ s. jitter_by u a a.starter ≤ jitter_by u b s) h.starter (by a.starter)
  where
    by : (s : Option ℕ) → jitter_by u a s ≤ jitter_by u b s
    by None = omega (arith, h.jitter)
    by (Some starter) = le_refl _

snoc : (bs cs : List Entry) (e f : Entry) → AllZip Less bs cs → Less e f → AllZip Less (bs ++ e ∷ []) (cs ++ f ∷ [])
snoc [] [] e f h k = (k, tt)
snoc [] (c ∷ cs) e f h k = absurd h
snoc (b ∷ bs) [] e f h k = absurd h
snoc (b ∷ bs) (c ∷ cs) e f h k = (h.0, snoc bs cs e f h.1 k)

sides-less : (u : List Bound) (bs cs es fs : List Entry) → AllZip Less bs cs → AllZip Less es fs
    → IsAtMost (sides_after u bs es) (sides_after u cs fs)
sides-less u bs cs [] [] h k = tt
sides-less u bs cs [] (f ∷ fs) h k = absurd k
sides-less u bs cs (e ∷ es) [] h k = absurd k
sides-less u bs cs (e ∷ es) (f ∷ fs) h k = (
  (jitter-less u e.0 f.0 k.0.0, response-less bs cs e f h k.0),
  sides-less u (bs ++ e ∷ []) (cs ++ f ∷ []) es fs (snoc bs cs e f h k.0) k.1,
)

zip-less : (rows more : List ThreadRow) (u : List Bound) → AskNoMore rows more → AllZip Less (zip rows u) (zip more u)
zip-less [] [] u h = tt
zip-less [] (b ∷ more) u h = absurd h
zip-less (a ∷ rows) [] u h = absurd h
zip-less (a ∷ rows) (b ∷ more) [] h = tt
zip-less (a ∷ rows) (b ∷ more) (x ∷ u) h = ((h.0, refl), zip-less rows more u h.1)

-- the right sides of rows that ask no more are nowhere above
pub right_sides-less : (rows more : List ThreadRow) (u : List Bound) → AskNoMore rows more → IsAtMost (right_sides rows u) (right_sides more u)
right_sides-less rows more u h = sides-less u [] [] (zip rows u) (zip more u) tt (zip-less rows more u h)

at_most-trans : (v u x : List Bound) → IsAtMost v u → IsAtMost u x → IsAtMost v x
at_most-trans [] [] [] h k = tt
at_most-trans [] [] (z ∷ x) h k = absurd k
at_most-trans [] (y ∷ u) x h k = absurd h
at_most-trans (a ∷ v) [] x h k = absurd h
at_most-trans (a ∷ v) (y ∷ u) [] h k = absurd k
at_most-trans (a ∷ v) (y ∷ u) (z ∷ x) h k = ((le_trans h.0.0 k.0.0, le_trans h.0.1 k.0.1), at_most-trans v u x h.1 k.1)

within-less : (rows more : List ThreadRow) (u : List Bound) → AskNoMore rows more → IsWithinLimits more u → IsWithinLimits rows u
within-less [] [] u h k = k
within-less [] (b ∷ more) u h k = absurd h
within-less (a ∷ rows) [] u h k = absurd h
within-less (a ∷ rows) (b ∷ more) [] h k = absurd k
within-less (a ∷ rows) (b ∷ more) (x ∷ u) h k =
    let deadline : a.deadline ≡ b.deadline = h.0.deadline in
    let period : a.period ≡ b.period = h.0.period in
    let under : x.response ≤ b.deadline = k.0.0 in
    let next : x.jitter + x.response ≤ b.period = k.0.1 in
    ((omega (arith, deadline, under), omega (arith, period, next)), within-less rows more u h.1 k.1)

pub rows-long : (rows more : List ThreadRow) → AskNoMore rows more → length more ≡ length rows
rows-long rows more h = AllZip-long AsksNoMore rows more h

-- a vector that fits what asks more fits what asks less
pub fits-less : (rows more : List ThreadRow) (u : List Bound) → AskNoMore rows more → Fits more u → Fits rows u
fits-less rows more u h k =
    let long : length u ≡ length rows = k.0.0 ∙ rows-long rows more h in
    ((long, at_most-trans (right_sides rows u) (right_sides more u) u (right_sides-less rows more u h) k.0.1), within-less rows more u h k.1)

-- and the least vector is nowhere above
pub least-less : (rows more : List ThreadRow) (v u : List Bound) → AskNoMore rows more → IsLeastVector rows v → IsLeastVector more u → IsAtMost v u
least-less rows more v u h low high = low.least u (fits-less rows more u h high.fits)
