-- What of a state matters to its log: the time, the part of the instant, who ran, and of each task what it is released by and what it has left to do.
-- Priorities, order numbers, sections and variables are left out, so that a log follows from few kinds of change.
use Rattle.std.specs.Prelude.{ℕ, ◌+◌, ◌-◌, Bool, true, false, List, [], ◌∷◌, map, slice_get, Option}
use Rattle.seq_tree.specs.Lists.{change}
use Rattle.seq_tree.specs.declared.tree.Costs.{Costs}
use Rattle.arrivals_tree.specs.declared.arrivals.Arrival.{Arrival}
use Rattle.machine.specs.Systems.{TaskUnit}
use Rattle.machine.specs.Pieces.{Piece, Finishing, pieces, ticks_of, works_of}
use Rattle.machine.specs.States.{State, Task, Phase, Effects, Readiness, Ready}
use Rattle.machine.specs.Releases.{next_time}
use Rattle.machine.specs.Effects.{resting}

-- what matters of a task
pub record Core : Type 0 where
  pub thread : TaskUnit
  pub readiness : Readiness
  pub next : ℕ
  pub pieces : List Piece
  pub left : ℕ
  pub used : ℕ
  pub works : ℕ
  pub open' : Bool

-- what matters of a state
pub record View : Type 0 where
  pub time : ℕ
  pub phase : Phase
  pub ran : Option ℕ
  pub arrivals : List Arrival
  pub cores : List Core

-- the time, the part of the instant and who ran
pub record Now : Type 0 where
  pub time : ℕ
  pub phase : Phase
  pub ran : Option ℕ

abbrev pub now_of : View → Now
now_of v = record { time = v.time; phase = v.phase; ran = v.ran }

abbrev pub core : Task → Core
core t = record {
  thread = t.thread;
  readiness = t.readiness;
  next = t.next;
  pieces = t.pieces;
  left = t.left;
  used = t.used;
  works = t.works;
  open' = t.gate.open';
}

abbrev pub view : State → View
view s = record { time = s.time; phase = s.phase; ran = s.ran; arrivals = s.arrivals; cores = map core s.tasks }

-- the ticks of the first of some pieces, and the number of durations that are taken as it begins
abbrev pub first_ticks : Costs → List ℕ → ℕ → List Piece → ℕ
first_ticks costs durations works [] = 0
first_ticks costs durations works (p ∷ ps) = ticks_of costs (slice_get durations works) p

abbrev pub works_after : ℕ → List Piece → ℕ
works_after works [] = works
works_after works (p ∷ ps) = works + works_of p

-- a task that goes on with these pieces
abbrev pub on_with : Costs → List Piece → Core → Core
on_with costs ps c = record c { pieces = ps; left = first_ticks costs c.thread.durations c.works ps; works = works_after c.works ps }

-- a task as it is released, as it ends, as its control structure opens, and as it uses a tick
abbrev pub waking_core : Core → Core
waking_core c = record c { readiness = Ready; next = next_time c.thread.timing c.next; used = 0; open' = false }

abbrev pub released_core : Costs → Core → Core
released_core costs c = on_with costs (pieces c.thread.block (Finishing ∷ [])) (waking_core c)

abbrev pub ended_core : Core → Core
ended_core c = record c { readiness = resting c.thread.timing c.next; pieces = []; left = 0 }

abbrev pub opened_core : Core → Core
opened_core c = record c { open' = true }

abbrev pub ticked_core : Core → Core
ticked_core c = record c { left = c.left - 1; used = c.used + 1 }

-- a view with one task changed
abbrev pub changed : ℕ → (Core → Core) → View → View
changed i f v = record v { cores = change i f v.cores }

-- a view after a tick
abbrev pub after_tick : Option ℕ → List Core → View → View
after_tick ran cores' v = record v { time = v.time + 1; phase = Effects; ran = ran; cores = cores' }
