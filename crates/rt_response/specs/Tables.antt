-- Tables for which the response equations can be solved: their number of rows, and the range of each number, in ticks.
-- The ranges are this project's own; a deadline is at most its period, as the equations want it.
use Rattle.std.specs.Prelude.{ℕ, ◌≤◌, ◌<◌, List, [], ◌∷◌, length, Option, Some, None}
use Rattle.rt_response.specs.declared.rows.ThreadRow.{ThreadRow}

-- P of each element
abbrev pub Each : {A : Type 0} → (A → Type 0) → List A → Type 0
Each P [] = Unit {0}
Each P (x ∷ xs) = P x × Each P xs

-- a starter that is one of so many rows, where there is one
abbrev pub IsStarter : ℕ → Option ℕ → Type 0
IsStarter count None = Unit {0}
IsStarter count (Some starter) = starter < count

-- a row of a table of so many rows
pub record IsRow (count : ℕ) (row : ThreadRow) : Type 0 where
  pub asks : 1 ≤ row.deadline
  pub before_next : row.deadline ≤ row.period
  pub period : row.period ≤ 1000000000
  pub works : 1 ≤ row.cost
  pub cost : row.cost ≤ 1000000000
  pub block : row.block ≤ 1000000000
  pub jitter : row.jitter ≤ 1000000000
  pub starter : IsStarter count row.starter

-- a table
pub record IsTable (rows : List ThreadRow) : Type 0 where
  pub count : length rows ≤ 30
  pub each : Each (IsRow (length rows)) rows
