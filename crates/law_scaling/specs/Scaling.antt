-- Scaled designs: all `work` dearer or cheaper, by so many per mille, or that of one object alone, and the rest as it was.
-- How far execution times may grow is the sensitivity analysis of Lehoczky, Sha and Ding 1989.
use Rattle.std.specs.Prelude.{ℕ, ◌*◌, min, Option, Some, None, if◌then◌else◌}
use Rattle.std.specs.Int.{div_ceil}
use Rattle.seq_tree.specs.Limits.{tick_limit}
use Rattle.seq_tree.specs.Names.{Name, same_name}
use Rattle.ods_tree.specs.Flats.{Flat}
use Rattle.law_scaling.specs.Working.{reworked}

-- the greatest per mille
abbrev pub most_per_mille : ℕ
most_per_mille = 1000000

-- ticks of `work` at so many per mille, rounded up, at most 1,000,000,000
abbrev pub scaled_ticks : ℕ → ℕ → ℕ
scaled_ticks k ticks = min tick_limit (div_ceil (ticks * k) 1000)

-- a flat design with all its `work` so scaled
abbrev pub scaled : ℕ → Flat → Flat
scaled k f = reworked (λ name. scaled_ticks k) f

-- the per mille at which the `work` of an object is: of every one, or of one alone, where all others have none
abbrev pub rate_in : Option Name → ℕ → Name → Option ℕ
rate_in None k object = Some k
rate_in (Some only) k object = if same_name object only then Some k else None

-- ticks at a per mille; without one they are as they were
abbrev pub ticks_at : Option ℕ → ℕ → ℕ
ticks_at None = λ ticks. ticks
ticks_at (Some k) = scaled_ticks k

-- the change of all `work`, or of that of one object alone, by so many per mille
abbrev pub work_of : Option Name → ℕ → Name → ℕ → ℕ
work_of only k = λ object. ticks_at (rate_in only k object)

-- a flat design with its `work` so scaled: all of it, or that of one object alone
abbrev pub scaled_in : Option Name → ℕ → Flat → Flat
scaled_in only k f = reworked (work_of only k) f
