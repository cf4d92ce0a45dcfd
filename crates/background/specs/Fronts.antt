-- A flat design whose threads of the longest deadline run in the background: below the others, each again as soon as it has ended.
-- It is said of flat designs alone; those of the hard part of a design have such threads for its clients and for no others.
use Rattle.std.specs.Prelude.{ℕ, ◌-◌, ◌==◌, ◌&&◌, Bool, false, List, ◌++◌, map, filter, filter_map, find, flat_map, zip, take, length, slice_get}
use Rattle.std.specs.Prelude.{Option, None, Some, option_map, option_and_then, if◌then◌else◌}
use Rattle.seq_tree.specs.Limits.{tick_limit}
use Rattle.seq_tree.specs.Layout.{layout}
use Rattle.seq_tree.specs.Names.{Name}
use Rattle.ods_tree.specs.Flats.{Cyclic, Thread, Flat}
use Rattle.ods_tree.specs.Services.{flat_services}
use Rattle.ada_tree.specs.Programs.{Program}
use Rattle.ada_tree.specs.Spelling.{program_lines}
use Rattle.rt_response.specs.declared.rows.ThreadRow.{ThreadRow}
use Rattle.rt_response.specs.declared.rows.Bound.{Bound}
use Rattle.analysis.specs.Ceilings.{Ranks, ranks, written_ranks}
use Rattle.analysis.specs.Priorities.{priorities_of}
use Rattle.analysis.specs.Starts.{can_request}
use Rattle.analysis.specs.Tables.{table, starter_of}
use Rattle.guarantee.specs.Programs.{program_for, head}
use Rattle.trace_text.specs.declared.bound.NamedBound.{NamedBound}
use Rattle.design_bounds.specs.Rows.{named_at}
use Rattle.background_designs.specs.Misfits.{Misfit, A6, is_sporadic}
use Rattle.background_designs.specs.Programs.{raised}

-- whether a thread has the longest deadline
abbrev pub is_slow : Thread → Bool
is_slow t = t.deadline == tick_limit

-- the number of such threads, and of the others
abbrev pub slow_count : Flat → ℕ
slow_count f = length (filter is_slow f.threads)

abbrev pub front_count : Flat → ℕ
front_count f = length f.threads - slow_count f

-- the rows of the others, and the places of their threads: those of the greatest priorities come first
abbrev pub front_rows : Flat → List ThreadRow
front_rows f = take (front_count f) (table f).rows

abbrev pub front_places : Flat → List ℕ
front_places f = take (front_count f) (table f).places

-- the name of the thread of a row, where rows have these places
abbrev pub name_at : List Thread → List ℕ → ℕ → Option Name
name_at ts places row = option_and_then (λ place. option_map (λ t. t.name) (slice_get ts place)) (slice_get places row)

-- the name of the thread of such a row
abbrev pub front_name : Flat → ℕ → Option Name
front_name f row = name_at f.threads (front_places f) row

-- whether a starter is this row
abbrev pub is_row : ℕ → Option ℕ → Bool
is_row row None = false
is_row row (Some starter) = starter == row

-- the first sporadic thread that a thread can request
abbrev pub first_requested : Flat → Thread → Option Thread
first_requested f c = find (λ t. is_sporadic t.timing && can_request (flat_services f) t.name c.block) f.threads

-- the first sporadic thread whose starter has this row
abbrev pub first_started : Flat → ℕ → Option Thread
first_started f row = find (λ t. is_sporadic t.timing && is_row row (starter_of f (priorities_of f) t.name t.timing)) f.threads

-- what is told of a thread, where it is slow and can request a sporadic one
abbrev pub request_fault : Flat → Thread → Option Misfit
request_fault f c = if is_slow c then option_map (λ t. A6 c.name t.name) (first_requested f c) else None

-- the sporadic threads that slow ones can request
abbrev pub slow_requests : Flat → List Misfit
slow_requests f =
    flat_map (λ c. map (λ t. A6 c.name t.name) (filter (λ t. is_sporadic t.timing && can_request (flat_services f) t.name c.block) f.threads))
    (filter is_slow f.threads)

-- a thread; a slow one is released again as soon as it has ended
abbrev pub at_once : Thread → Thread
at_once t = if is_slow t then record t { timing = Cyclic 1 0 } else t

-- the flat design with such threads
abbrev pub restless_flat : Flat → Flat
restless_flat f = record f { threads = map at_once f.threads }

-- its priorities and ceilings, as they are written where the least is written as this number: slow threads have one, and no ceiling is below it
abbrev pub restless_ranks : ℕ → Flat → Ranks
restless_ranks first f = written_ranks first (raised (slow_count f) (ranks f))

-- its program
abbrev pub restless_program : ℕ → Flat → Program
restless_program first f = program_for (restless_flat f) (restless_ranks first f)

-- its text, with these bounds in its head
abbrev pub restless_text : ℕ → Flat → List Bound → List ℕ
restless_text first f v = head (restless_flat f) (restless_ranks first f) (front_places f) v ++ layout (program_lines (restless_program first f))

-- the bounds of the threads that aren't slow, with their names and numbers
abbrev pub restless_bounds : ℕ → Flat → List Bound → List NamedBound
restless_bounds first f v = filter_map (named_at (restless_flat f) (restless_ranks first f).threads) (zip (front_places f) (zip (front_rows f) v))
