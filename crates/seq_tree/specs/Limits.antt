-- The limits that stand in many places, by their names. Each computes to its number.
-- They are this project's own.
use Rattle.std.specs.Prelude.{ℕ, Bool, ◌&&◌, nat_le}

-- the most bytes of the text of a design, and of arrivals
abbrev pub text_limit : ℕ
text_limit = 1048576

-- the most bytes of an Ada text, and of a trace
abbrev pub ada_limit : ℕ
ada_limit = 16777216

-- the most ticks of a time, of a cost and of a horizon
abbrev pub tick_limit : ℕ
tick_limit = 1000000000

-- whether a number is in a range
abbrev pub is_within : ℕ → ℕ → ℕ → Bool
is_within low high n = nat_le low n && nat_le n high
