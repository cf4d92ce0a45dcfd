-- The bounds of threads by what is told of their rows, and the jitters of the threads that they start.
-- A thread that another one starts inherits that one's release jitter (Tindell, Burns and Wellings 1994).
use Rattle.std.specs.Prelude.{ℕ, ◌+◌, List, slice_get, Option, Some, None}
use Rattle.rt_response.specs.declared.rows.ThreadRow.{ThreadRow}
use Rattle.late_response.specs.declared.reach.Reach.{Reach}
use Rattle.late_response.specs.declared.reach.Reach.TheVariants.{Solved, Beyond, Behind}
use Rattle.explanation.specs.declared.reasons.Reasons.{Reasons}
use Rattle.explanation.specs.declared.values.Value.{Value}

-- the jitter and the response time of a row, where it is solved
abbrev pub value_of : Reach → Option Value
value_of (Solved jitter response) = Some (record { jitter = jitter; response = response })
value_of (Beyond round jitter response) = None
value_of (Behind starter) = None

-- those of a thread, where there is one
abbrev pub value_in : Option Reasons → Option Value
value_in None = None
value_in (Some r) = value_of r.reach

-- those of the thread at a place
abbrev pub value_at : List Reasons → ℕ → Option Value
value_at ts place = value_in (slice_get ts place)

-- a jitter and a response time together
abbrev pub end_of : Option Value → ℕ
end_of None = 0
end_of (Some v) = v.jitter + v.response

-- the jitter of a row: its own, or the jitter and the response time of the thread that starts it
abbrev pub known_jitter : List Reasons → ThreadRow → Option ℕ → ℕ
known_jitter ts row None = row.jitter
known_jitter ts row (Some starter) = end_of (value_at ts starter)
