-- The limits of what is written in a design.
-- They are those of the rules, by name.
use Rattle.std.specs.Prelude.{ℕ}
use Rattle.seq_tree.specs.Limits.{tick_limit}

-- the greatest time, in ticks or microseconds, and the greatest number of `work`
abbrev pub most_ticks : ℕ
most_ticks = tick_limit

-- the greatest number that is told
abbrev pub most_count : ℕ
most_count = 4294967295
