-- The laws of what is told of rows: solved rows are the least solution, and rows that are given up are late in every solution.
use Rattle.std.specs.Prelude.{◌≡◌, ◌↔◌, ℕ, ◌+◌, ◌≤◌, List, map, take, length, Option, Some, None, slice_get}
use Rattle.std.specs.List.{AllZip}
use Rattle.rt_response.specs.declared.rows.ThreadRow.{ThreadRow}
use Rattle.rt_response.specs.declared.rows.Bound.{Bound}
use Rattle.rt_response.specs.Tables.{IsTable}
use Rattle.rt_response.specs.Response.{Entry, response_after, Meets, IsWithinLimits, IsLeastVector}
use Rattle.late_response.specs.declared.reach.Reach.{Reach}
use Rattle.late_response.specs.declared.reach.Reach.TheVariants.{Solved, Beyond, Behind}
use Rattle.late_response.specs.Late.{IsFar, IsSolved, IsBeyond, IsTold, AreTold}

-- no vector that meets the equations has less for a solved row
abbrev pub SolvedIsLeast : Type 0
SolvedIsLeast =
    (rows : List ThreadRow) (i : ℕ) (b c : Bound) (u : List Bound) → IsSolved rows i b → Meets rows u → slice_get u i ≡ Some c
    → (b.jitter ≤ c.jitter) × (b.response ≤ c.response)

-- the jitter of a row: its own, or the jitter and the response time of its starter, which is solved
abbrev pub HasJitter : List ThreadRow → ThreadRow → Option ℕ → ℕ → Type 0
HasJitter rows row None n = n ≡ row.jitter
HasJitter rows row (Some starter) n = (b : Bound) × IsSolved rows starter b × (n ≡ b.jitter + b.response)

-- the rows above a row, with bounds that have their jitters
abbrev pub AreAbove : List ThreadRow → ℕ → List Entry → Type 0
AreAbove rows i es = AllZip (λ row e. (e.0 ≡ row) × HasJitter rows row row.starter e.1.jitter) (take i rows) es

-- a solved row meets its own equation with equality, whatever the responses of the rows above it are
abbrev pub SolvedMeetsItsEquation : Type 0
SolvedMeetsItsEquation =
    (rows : List ThreadRow) (i : ℕ) (row : ThreadRow) (b : Bound) (es : List Entry) → IsTable rows → IsSolved rows i b
    → slice_get rows i ≡ Some row → AreAbove rows i es
    → HasJitter rows row row.starter b.jitter × (b.response ≡ response_after es (row, b))

-- a vector of solved rows
pub record AreSolved (rows : List ThreadRow) (v : List Bound) : Type 0 where
  pub long : length v ≡ length rows
  pub each : (i : ℕ) (b : Bound) → slice_get v i ≡ Some b → IsSolved rows i b

-- where all rows are solved within their limits, they are the least vector within the limits
abbrev pub SolvedInTimeIsLeast : Type 0
SolvedInTimeIsLeast = (rows : List ThreadRow) (v : List Bound) → AreSolved rows v → IsWithinLimits rows v → IsLeastVector rows v

-- where there is such a vector, all rows are solved with it
abbrev pub LeastIsSolved : Type 0
LeastIsSolved = (rows : List ThreadRow) (v : List Bound) → IsTable rows → IsLeastVector rows v → AreSolved rows v

-- a row that is given up is over ten times one of its limits in each vector that meets the equations
abbrev pub BeyondIsLate : Type 0
BeyondIsLate =
    (rows : List ThreadRow) (i k : ℕ) (row : ThreadRow) (b c : Bound) (u : List Bound) → IsBeyond rows i k b → Meets rows u
    → slice_get rows i ≡ Some row → slice_get u i ≡ Some c → IsFar row c

-- what is told of a row is the only thing that can be
abbrev pub ToldOnce : Type 0
ToldOnce = (rows : List ThreadRow) (i : ℕ) (r other : Reach) → IsTold rows i r → IsTold rows i other → r ≡ other

-- so one list is told of a table
abbrev pub TableToldOnce : Type 0
TableToldOnce = (rows : List ThreadRow) (found others : List Reach) → AreTold rows found → AreTold rows others → found ≡ others

-- a jitter and a response time that are told of a row, together
abbrev pub told_sum : Option Reach → ℕ
told_sum None = 0
told_sum (Some (Solved jitter response)) = jitter + response
told_sum (Some (Beyond round jitter response)) = 0
told_sum (Some (Behind starter)) = 0

-- the jitter of a row by what is told: its own, or what is told of its starter
abbrev pub told_jitter : List Reach → ThreadRow → Option ℕ → ℕ
told_jitter found row None = row.jitter
told_jitter found row (Some starter) = told_sum (slice_get found starter)

-- a row with its jitter, of which the interference of lower rows is made
abbrev pub told_entry : List Reach → ThreadRow → Entry
told_entry found row = (row, record { jitter = told_jitter found row row.starter; response = 0 })

-- where a row is told to be solved, its two numbers are those of its equation: the jitters are those that are told, and the blocking, the cost
-- and what the rows above take of the response time add up to it
abbrev pub ToldMeetsItsEquation : Type 0
ToldMeetsItsEquation =
    (rows : List ThreadRow) (found : List Reach) (i jitter response : ℕ) (row : ThreadRow) → IsTable rows → AreTold rows found
    → slice_get rows i ≡ Some row → slice_get found i ≡ Some (Solved jitter response)
    → (jitter ≡ told_jitter found row row.starter)
    × (response ≡ response_after (map (told_entry found) (take i rows)) (row, record { jitter = jitter; response = response }))

-- a row that is solved within its limits
abbrev pub IsInTime : ThreadRow → Reach → Type 0
IsInTime row (Solved jitter response) = (response ≤ row.deadline) × (jitter + response ≤ row.period)
IsInTime row (Beyond round jitter response) = ⊥
IsInTime row (Behind starter) = ⊥

-- what is told of a row with this bound
abbrev pub solved_with : Bound → Reach
solved_with b = Solved b.jitter b.response

-- no row is late exactly where there is a least vector within the limits, and then that is told
abbrev pub NoneIsLate : Type 0
NoneIsLate =
    (rows : List ThreadRow) (found : List Reach) → IsTable rows → AreTold rows found
    → AllZip IsInTime rows found ↔ ((v : List Bound) × IsLeastVector rows v × (found ≡ map solved_with v))

-- a vector that is told is any that is the least within the limits
abbrev pub LeastIsTold : Type 0
LeastIsTold =
    (rows : List ThreadRow) (found : List Reach) (v : List Bound) → IsTable rows → AreTold rows found → IsLeastVector rows v
    → found ≡ map solved_with v
