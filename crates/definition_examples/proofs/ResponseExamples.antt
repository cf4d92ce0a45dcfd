-- Examples: the response equations over a table of three rows, the rounds that solve them, and which tables they are for.
use Rattle.std.specs.Prelude.{◌≡◌, ℕ, zero, suc, ◌≤◌, ◌<◌, List, [], ◌∷◌, map, replicate, Some, None, refl}
use Rattle.std.specs.List.{AllZip}
use Rattle.std.proofs.Common.{arith, lit≤}
use Rattle.rt_response.specs.declared.rows.ThreadRow.{ThreadRow}
use Rattle.rt_response.specs.declared.rows.Bound.{Bound}
use Rattle.rt_response.specs.declared.rows.Limit.TheVariants.{Deadline, Separation}
use Rattle.rt_response.specs.Response.{interference, right_sides, Meets, Fits, IsLeastVector}
use Rattle.rt_response.specs.Rounds.{round, before_round, first_excess, IsMiss}
use Rattle.rt_response.specs.Tables.{IsRow, IsTable}

abbrev bound : ℕ → ℕ → Bound
bound jitter response = record { jitter = jitter; response = response }

-- a row of the greatest priority, one with a jitter, and one that the first starts
abbrev first : ThreadRow
first = record { period = 10; deadline = 10; jitter = 0; cost = 2; block = 1; starter = None }

abbrev second : ThreadRow
second = record { period = 20; deadline = 15; jitter = 4; cost = 3; block = 0; starter = None }

abbrev third : ThreadRow
third = record { period = 50; deadline = 40; jitter = 0; cost = 1; block = 0; starter = Some 0 }

abbrev rows : List ThreadRow
rows = first ∷ second ∷ third ∷ []

abbrev solved : List Bound
solved = bound 0 3 ∷ bound 4 5 ∷ bound 3 6 ∷ []

-- THE EQUATIONS
-- one more activation as soon as the window and the jitter are over a period
in_a_window : map (λ w. interference w (second, bound 4 5)) (0 ∷ 16 ∷ 17 ∷ 36 ∷ 37 ∷ []) ≡ 3 ∷ 3 ∷ 6 ∷ 6 ∷ 9 ∷ []
in_a_window = refl

sides : right_sides rows solved ≡ solved
sides = refl

-- each response from its own window, each jitter by the starter's row
other_sides : right_sides rows (bound 1 7 ∷ bound 2 11 ∷ bound 0 19 ∷ []) ≡ bound 0 3 ∷ bound 4 7 ∷ bound 8 11 ∷ []
other_sides = refl

fits : Fits rows solved
fits = (
  (refl, ((lit≤ tt, lit≤ tt), ((lit≤ tt, lit≤ tt), ((lit≤ tt, lit≤ tt), tt)))),
  ((lit≤ tt, lit≤ tt), ((lit≤ tt, lit≤ tt), ((lit≤ tt, lit≤ tt), tt))),
)

-- a response that is too little, and an inherited jitter that is
low_response : Meets rows (bound 0 3 ∷ bound 4 4 ∷ bound 3 6 ∷ []) → ⊥
low_response h = omega (arith, h.1.1.0.1)

low_jitter : Meets rows (bound 0 3 ∷ bound 4 5 ∷ bound 2 6 ∷ []) → ⊥
low_jitter h = omega (arith, h.1.1.1.0.0)

-- a vector that is too short
short : Meets rows (bound 0 3 ∷ []) → ⊥
short h = (let e = h.0 in omega (arith, e))

short_for_none : Meets [] (bound 0 3 ∷ []) → ⊥
short_for_none h = (let e = h.0 in omega (arith, e))

-- a response over the deadline, and a response and a jitter that are over the period
over_deadline : Fits (first ∷ []) (bound 0 11 ∷ []) → ⊥
over_deadline h = omega (arith, h.1.0.0)

over_period : Fits (first ∷ []) (bound 8 3 ∷ []) → ⊥
over_period h = omega (arith, h.1.0.1)

-- the least vector of a row, and one that isn't the least
least : IsLeastVector (first ∷ []) (bound 0 3 ∷ [])
least = record { fits = ((refl, ((lit≤ tt, lit≤ tt), tt)), ((lit≤ tt, lit≤ tt), tt)); least = below }
  where
    below : (u : List Bound) → Fits (first ∷ []) u → AllZip (λ a b. (a.jitter ≤ b.jitter) × (a.response ≤ b.response)) (bound 0 3 ∷ []) u
    below [] h = absurd (let e = h.0.0 in omega (arith, e))
    below (b ∷ []) h = h.0.1
    below (b ∷ c ∷ u) h = absurd (let e = h.0.0 in omega (arith, e))

not_least : IsLeastVector (first ∷ []) (bound 0 4 ∷ []) → ⊥
not_least h = omega (arith, (h.least (bound 0 3 ∷ []) least.fits).0.1)

not_fitting : IsLeastVector (first ∷ []) (bound 0 2 ∷ []) → ⊥
not_fitting h = omega (arith, h.fits.0.1.0.1)

-- THE ROUNDS
rounds : map (round rows) (0 ∷ 1 ∷ 2 ∷ []) ≡ (bound 0 3 ∷ bound 4 3 ∷ bound 0 1 ∷ []) ∷ (bound 0 3 ∷ bound 4 5 ∷ bound 3 6 ∷ []) ∷ solved ∷ []
rounds = refl

zeros : before_round rows 0 ≡ bound 0 0 ∷ bound 0 0 ∷ bound 0 0 ∷ []
zeros = refl

round_before : before_round rows 1 ≡ round rows 0
round_before = refl

no_excess : first_excess 0 rows solved ≡ None
no_excess = refl

-- the deadline before the separation, and the first row before others
first_over : map (first_excess 0 (first ∷ first ∷ [])) ((bound 9 11 ∷ bound 0 12 ∷ []) ∷ (bound 8 3 ∷ bound 0 12 ∷ [])
    ∷ (bound 0 3 ∷ bound 0 12 ∷ []) ∷ [])
    ≡ Some (record { index = 0; which = Deadline; value = 11; limit = 10 }) ∷ Some (record { index = 0; which = Separation; value = 11; limit = 10 })
    ∷ Some (record { index = 1; which = Deadline; value = 12; limit = 10 }) ∷ []
first_over = refl

-- a row that misses its deadline in round 1
abbrev tight : List ThreadRow
tight = first ∷ record second { deadline = 4 } ∷ []

missed : IsMiss tight (record { index = 1; which = Deadline; value = 5; limit = 4; round = 1 })
missed = record { earlier = before; over = refl }
  where
    before : (k : ℕ) → k < 1 → first_excess 0 tight (round tight k) ≡ None
    before zero less = refl
    before (suc k) less = absurd (omega (arith, less))

-- a later round isn't the first, and an earlier one has nothing over its limit
not_first : IsMiss tight (record { index = 1; which = Deadline; value = 5; limit = 4; round = 2 }) → ⊥
not_first h = (let e = h.earlier 1 (lit≤ tt) in cc)

nothing_over : IsMiss tight (record { index = 1; which = Deadline; value = 5; limit = 4; round = 0 }) → ⊥
nothing_over h = (let e = h.over in cc)

-- THE TABLES
first_row : IsRow 3 first
first_row = record {
  asks = lit≤ tt;
  before_next = lit≤ tt;
  period = lit≤ tt;
  works = lit≤ tt;
  cost = lit≤ tt;
  block = lit≤ tt;
  jitter = lit≤ tt;
  starter = tt;
}

second_row : IsRow 3 second
second_row = record {
  asks = lit≤ tt;
  before_next = lit≤ tt;
  period = lit≤ tt;
  works = lit≤ tt;
  cost = lit≤ tt;
  block = lit≤ tt;
  jitter = lit≤ tt;
  starter = tt;
}

third_row : IsRow 3 third
third_row = record {
  asks = lit≤ tt;
  before_next = lit≤ tt;
  period = lit≤ tt;
  works = lit≤ tt;
  cost = lit≤ tt;
  block = lit≤ tt;
  jitter = lit≤ tt;
  starter = lit≤ tt;
}

tabled : IsTable rows
tabled = record { count = lit≤ tt; each = (first_row, (second_row, (third_row, tt))) }

-- 31 rows
many : IsTable (replicate 31 first) → ⊥
many h = (let e = h.count in omega (arith, e))

-- a deadline of 0, or over the period
no_deadline : IsRow 3 (record first { deadline = 0 }) → ⊥
no_deadline h = omega (arith, h.asks)

late_deadline : IsRow 3 (record first { deadline = 11 }) → ⊥
late_deadline h = omega (arith, h.before_next)

-- a period, a cost, a blocking, a jitter over what a table may have, and a cost of 0
long_period : IsRow 3 (record first { period = 1000000001 }) → ⊥
long_period h = omega (arith, h.period)

great_cost : IsRow 3 (record first { cost = 1000000001 }) → ⊥
great_cost h = omega (arith, h.cost)

no_cost : IsRow 3 (record first { cost = 0 }) → ⊥
no_cost h = omega (arith, h.works)

great_blocking : IsRow 3 (record first { block = 1000000001 }) → ⊥
great_blocking h = omega (arith, h.block)

great_jitter : IsRow 3 (record first { jitter = 1000000001 }) → ⊥
great_jitter h = omega (arith, h.jitter)

-- a starter that is no row of the table
other_starter : IsRow 3 (record first { starter = Some 3 }) → ⊥
other_starter h = omega (arith, h.starter)
