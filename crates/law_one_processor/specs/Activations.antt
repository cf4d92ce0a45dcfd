-- The activations that have ended in a trace: each release of a task, with the next end of the same task.
-- In the events of a run tasks are places of units; in a trace that was read they are names.
use Rattle.std.specs.Prelude.{ℕ, ◌==◌, List, [], ◌∷◌, ◌++◌, Option, Some, None, if◌then◌else◌}
use Rattle.seq_tree.specs.Names.{Name, same_name}
use Rattle.trace_tree.specs.declared.event.Event as machine
use Rattle.trace_tree.specs.declared.event.Event.TheVariants as event
use Rattle.guarantee.specs.Events.{Event, By, Release, End}
use Rattle.law_one_processor.specs.Demand.{Ended}

-- an activation, where there is an end: its time and the ticks used
abbrev pub ended_by : ℕ → Option (ℕ × ℕ) → List Ended
ended_by released None = []
ended_by released (Some end) = record { released = released; ended = end.0; used = end.1 } ∷ []

-- the next end of a task
abbrev pub next_end : Name → List Event → Option (ℕ × ℕ)
next_end name [] = None
next_end name (By time task (End used) ∷ told) = if same_name task name then Some (time, used) else next_end name told
next_end name (_ ∷ told) = next_end name told

-- the activations of a trace that have ended
abbrev pub activations : List Event → List Ended
activations [] = []
activations (By time task (Release value) ∷ told) = ended_by time (next_end task told) ++ activations told
activations (_ ∷ told) = activations told

-- the next end of the task at a place
abbrev pub next_end_at : ℕ → List machine.Event → Option (ℕ × ℕ)
next_end_at unit [] = None
next_end_at unit (event.End time task used ∷ told) = if task == unit then Some (time, used) else next_end_at unit told
next_end_at unit (_ ∷ told) = next_end_at unit told

-- the activations that have ended in a run
abbrev pub told_activations : List machine.Event → List Ended
told_activations [] = []
told_activations (event.Release time task value ∷ told) = ended_by time (next_end_at task told) ++ told_activations told
told_activations (_ ∷ told) = told_activations told
