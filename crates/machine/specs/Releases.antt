-- The release of a task: at its time, or by a request that its control structure keeps.
-- A released task goes behind the other ready tasks of its priority (ISO/IEC 8652:2012, D.2.3).
use Rattle.std.specs.Prelude.{ℕ, ◌+◌, Bool, true, false, ◌&&◌, List, [], ◌∷◌, ◌++◌, Option, Some, None, slice_get, option_to_list, if◌then◌else◌}
use Rattle.seq_tree.specs.Variables.{Variables, entered}
use Rattle.seq_tree.specs.declared.tree.Costs.{Costs}
use Rattle.trace_tree.specs.declared.event.Event.{Event}
use Rattle.trace_tree.specs.declared.event.Event.TheVariants as event
use Rattle.seq_tree.specs.Lists.{change}
use Rattle.machine.specs.Systems.{System, ReleasePattern, Periodic, Requested}
use Rattle.machine.specs.Pieces.{Piece, Finishing, pieces, ticks_of, works_of}
use Rattle.machine.specs.States.{State, Task, Readiness, Asleep, Waiting, Ready, shut}
use Rattle.machine.specs.Dispatch.{put_last}

-- a state, and what is told before it
abbrev pub Next : Type 0
Next = State × List Event

-- what is told first, before what else happens
abbrev pub after : List Event → Next → Next
after told next = (next.0, told ++ next.1)

-- a task that goes on with these variables and pieces: the first piece starts
abbrev pub going : Costs → Variables → List Piece → Task → Task
going costs vars [] t = record t { vars = vars; pieces = []; left = 0 }
going costs vars (p ∷ ps) t = record t {
  vars = vars;
  pieces = p ∷ ps;
  left = ticks_of costs (slice_get t.thread.durations t.works) p;
  works = t.works + works_of p;
}

-- the next nominal time
abbrev pub next_time : ReleasePattern → ℕ → ℕ
next_time (Periodic offset period) next = next + period
next_time (Requested op ceiling separation jitter external) next = next

-- the parameter of a request
abbrev pub parameter : ReleasePattern → Option ℕ → Variables
parameter (Periodic offset period) value = []
parameter (Requested op ceiling separation jitter external) value = entered op.params (option_to_list value)

-- a task as it is released
abbrev pub released : Costs → Task → Task
released costs t =
    going costs (parameter t.thread.timing t.gate.value ++ t.vars) (pieces t.thread.block (Finishing ∷ []))
    (record t { readiness = Ready; next = next_time t.thread.timing t.next; used = 0; gate = shut })

-- the release of a task
abbrev pub release_task : System → ℕ → Option Task → State → Next
release_task y i None s = (s, [])
release_task y i (Some t) s =
    (record s { tasks = change i (released y.costs) s.tasks; orders = put_last i s.orders }, event.Release s.time t.thread.unit t.gate.value ∷ [])

-- the release of the task at this place
abbrev pub release : System → ℕ → State → Next
release y i s = release_task y i (slice_get s.tasks i) s

-- whether a task waits for a request
abbrev pub is_waiting : Readiness → Bool
is_waiting Waiting = true
is_waiting Ready = false
is_waiting (Asleep until) = false

-- the release of a task, where it waits and its control structure is open
abbrev pub serve_task : System → ℕ → Option Task → State → Next
serve_task y i None s = (s, [])
serve_task y i (Some t) s = if is_waiting t.readiness && t.gate.open' then release y i s else (s, [])

-- the release of the task at this place, where it waits and its control structure is open
abbrev pub serve : System → ℕ → State → Next
serve y i s = serve_task y i (slice_get s.tasks i) s
