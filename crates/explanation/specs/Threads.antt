-- What is told of each thread of a flat design: its row, what is known of its bound, and what blocks it.
-- Threads stand by priority, the greatest first; of the causes of a blocking it is the first (Sha, Rajkumar and Lehoczky 1990).
use Rattle.std.specs.Prelude.{ℕ, ◌≤◌, List, filter_map, length, map, zip, slice_get, Option, option_map, option_and_then}
use Rattle.std.specs.List.{enumerate_from}
use Rattle.ods_tree.specs.Flats.{Flat}
use Rattle.rt_response.specs.declared.rows.ThreadRow.{ThreadRow}
use Rattle.analysis.specs.Ceilings.{numbered}
use Rattle.analysis.specs.Priorities.{priorities_of}
use Rattle.analysis.specs.Tables.{downwards, table}
use Rattle.block_causes.specs.Causes.{Cause, cause}
use Rattle.response_terms.specs.Paths.{chain_up}
use Rattle.late_response.specs.declared.reach.Reach.{Reach}
use Rattle.explanation.specs.declared.reasons.Blocker.{Blocker}
use Rattle.explanation.specs.declared.reasons.Reasons.{Reasons}

-- a cause of blocking by its names, where its thread is there
abbrev pub blocker_of : Flat → Cause → Option Blocker
blocker_of f c =
    option_map (λ t. record { thread = t.name; object = c.op.object; op = c.op.op }) (slice_get f.threads c.thread)

-- the place of a row's thread with the row, what is told of it, the cause of its blocking and its priority as it is written
abbrev pub Known : Type 0
Known = ℕ × (ThreadRow × (Reach × (Option Cause × ℕ)))

-- what is told of the thread at a place, where one is there
abbrev pub reasons_at : Flat → Known → Option Reasons
reasons_at f k =
    option_map (λ t. record {
      name = t.name;
      priority = k.1.1.1.1;
      row = k.1.0;
      reach = k.1.1.0;
      blocker = option_and_then (blocker_of f) k.1.1.1.0;
    }) (slice_get f.threads k.0)

-- what blocks each thread of a flat design
abbrev pub causes : Flat → List (Option Cause)
causes f = map (cause f (priorities_of f)) (downwards (length f.threads))

-- what is told of the threads of a flat design whose least priority is written as this number
abbrev pub reasons_of : ℕ → Flat → List Reach → List Reasons
reasons_of first f found =
    filter_map (reasons_at f)
    (zip (table f).places (zip (table f).rows (zip found (zip (causes f) (numbered first (downwards (length f.threads)))))))

-- the chain of requests of each row of a table
abbrev pub chains : List ThreadRow → List (List ℕ)
chains rows = map (λ x. chain_up rows x.0) (enumerate_from 0 rows)

-- a thread with a period of a tick at least
abbrev pub HasPeriod : Reasons → Type 0
HasPeriod r = 1 ≤ r.row.period
