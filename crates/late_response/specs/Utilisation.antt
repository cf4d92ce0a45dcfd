-- The utilisation of a table: the sum of cost / period of its rows (Liu and Layland 1973), as a fraction, and in whole per mille.
use Rattle.std.specs.Prelude.{ℕ, ◌+◌, ◌*◌, ◌≤◌, ◌<◌, List, fold}
use Rattle.rt_response.specs.declared.rows.ThreadRow.{ThreadRow}

-- a fraction
pub record Fraction : Type 0 where
  pub over : ℕ
  pub under : ℕ

-- a fraction and cost / period of a row together
abbrev pub plus : Fraction → ThreadRow → Fraction
plus f row = record { over = f.over * row.period + f.under * row.cost; under = f.under * row.period }

-- the utilisation
abbrev pub utilisation : List ThreadRow → Fraction
utilisation rows = fold plus (record { over = 0; under = 1 }) rows

-- the whole number of per mille of a fraction: its thousandfold lies between that number and the next
abbrev pub IsPerMille : Fraction → ℕ → Type 0
IsPerMille f n = (n * f.under ≤ 1000 * f.over) × (1000 * f.over < (n + 1) * f.under)
