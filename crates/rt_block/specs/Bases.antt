-- What the rows of a thread have for any priorities: its times, its cost and which thread requests it.
-- A cost is cut at one tick over the greatest cost, which none of a sound flat design reaches.
use Rattle.std.specs.Prelude.{ℕ, ◌-◌, min, List, length, position, slice_get, Option, None, option_map, option_and_then}
use Rattle.seq_tree.specs.Names.{Name}
use Rattle.ods_tree.specs.Flats.{Timing, Cyclic, Sporadic, Thread, Flat, period_of}
use Rattle.ods_tree.specs.Services.{flat_services}
use Rattle.rt_response.specs.declared.rows.ThreadRow.{ThreadRow}
use Rattle.analysis.specs.Blocking.{blocking}
use Rattle.analysis.specs.Starts.{can_request}
use Rattle.analysis.specs.Tables.{activation_cost, jitter_of, unless_external}
use Rattle.call_graph.specs.Prices.{cap}
use Rattle.rt_block.specs.declared.bases.Base.{Base}

-- the cost of a thread's activation, cut
abbrev pub thread_cost : Flat → Thread → ℕ
thread_cost f t = min cap (activation_cost f t)

-- the place of the first thread that can request this one, where it isn't requested from outside
abbrev pub starter_place : Flat → Name → Timing → Option ℕ
starter_place f name (Cyclic period offset) = None
starter_place f name (Sporadic op separation jitter) =
    unless_external jitter (position (λ t. can_request (flat_services f) name t.block) f.threads)

-- all that the rows of a thread have for any priorities
abbrev pub base_of : Flat → Thread → Base
base_of f t = record {
  period = period_of t.timing;
  deadline = t.deadline;
  jitter = jitter_of t.timing;
  cost = thread_cost f t;
  starter = starter_place f t.name t.timing;
}

-- the row of the thread at a place, for these priorities
abbrev pub row_place : List ℕ → Option ℕ → Option ℕ
row_place ps starter = option_and_then (λ at. option_map (λ p. length ps - p) (slice_get ps at)) starter

-- the row of a thread of this priority
abbrev pub row_by : Flat → List ℕ → Base → ℕ → ThreadRow
row_by f ps b priority = record {
  period = b.period;
  deadline = b.deadline;
  jitter = b.jitter;
  cost = b.cost;
  block = blocking f ps priority;
  starter = row_place ps b.starter;
}

-- that of the thread at a place
abbrev pub base_row : Flat → List ℕ → List Base → ℕ → Option ThreadRow
base_row f ps bases at = option_and_then (λ b. option_map (row_by f ps b) (slice_get ps at)) (slice_get bases at)
