-- What makes a sample valid: its design is read, meets the rules and has these bounds, its arrivals are accepted, its Ada text is short.
-- The bounds are those of the response equations (Audsley et al. 1993); the limit on bytes is this project's own.
use Rattle.std.specs.Prelude.{◌≡◌, ℕ, ◌+◌, ◌*◌, ◌≤◌, ◌==◌, List, map, length, if◌then◌else◌}
use Rattle.seq_tree.specs.Limits.{ada_limit}
use Rattle.ods_tree.specs.Flattening.{flat}
use Rattle.ods_tree.specs.Layout.{design_text}
use Rattle.ods_tree.specs.Reading.{Reads}
use Rattle.ods_tree.specs.Ticks.{in_ticks}
use Rattle.design_rules.specs.Rules.{MeetsRules}
use Rattle.rt_response.specs.declared.rows.Bound.{Bound}
use Rattle.rt_response.specs.Response.{IsLeastVector}
use Rattle.analysis.specs.Tables.{table}
use Rattle.arrivals_tree.specs.Arriving.{Arrivals}
use Rattle.arrivals_tree.specs.Arrived.{Arrives, horizon_limit}
use Rattle.guarantee.specs.Programs.{program, text}
use Rattle.sample_design.specs.Requests.{sample_arrivals}
use Rattle.sample_design.specs.Samples.{from_on, is_sporadic, sample_design}

-- the bound of a thread of so many: the last thread waits for no one
abbrev pub sample_bound : ℕ → ℕ → Bound
sample_bound n k = record { jitter = if is_sporadic k then k else 0; response = if k == n then 12 * n else 12 * k + 1 }

-- the bounds of the threads, by priority from the greatest on
abbrev pub sample_bounds : ℕ → List Bound
sample_bounds n = map (sample_bound n) (from_on 1 n)

-- the sample of so many threads is valid
pub record IsValid (n : ℕ) : Type 0 where
  pub reads : Reads (design_text (sample_design n)) (sample_design n)
  pub rules : MeetsRules (sample_design n)
  pub bounds : IsLeastVector (table (flat (in_ticks (sample_design n)))).rows (sample_bounds n)
  pub only : (v : List Bound) → IsLeastVector (table (flat (in_ticks (sample_design n)))).rows v → v ≡ sample_bounds n
  pub arrivals : Arrivals
  pub arrives : Arrives horizon_limit (sample_arrivals n) (program (in_ticks (sample_design n))) arrivals
  pub short : length (text (in_ticks (sample_design n)) (sample_bounds n)) ≤ ada_limit

-- each sample is
abbrev pub SamplesAreValid : Type 0
SamplesAreValid = (n : ℕ) → 1 ≤ n → n ≤ 30 → IsValid n
