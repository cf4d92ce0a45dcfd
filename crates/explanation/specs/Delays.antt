-- What a thread of higher priority takes of a window.
-- The summands are those of Joseph and Pandya 1986, with the jitters of Tindell, Burns and Wellings 1994.
use Rattle.std.specs.Prelude.{ℕ, List}
use Rattle.rt_response.specs.declared.rows.ThreadRow.{ThreadRow}
use Rattle.rt_response.specs.Response.{Entry, interference}
use Rattle.response_terms.specs.Terms.{delay}
use Rattle.explanation.specs.declared.delays.Delay.{Delay}
use Rattle.explanation.specs.declared.reasons.Reasons.{Reasons}
use Rattle.explanation.specs.Values.{known_jitter}

-- a row with its jitter
abbrev pub entry_of : List Reasons → ThreadRow → Entry
entry_of ts row = (row, record { jitter = known_jitter ts row row.starter; response = 0 })

-- how many activations of a row fall into a window at most, and the ticks that they take
abbrev pub delay_by : List Reasons → ℕ → ThreadRow → Delay
delay_by ts window row =
    record { activations = (delay window (entry_of ts row)).activations; ticks = interference window (entry_of ts row) }
