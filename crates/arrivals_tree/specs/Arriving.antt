-- What is handed to a run: the horizon, lists of durations, and requests from outside in the order of the file.
-- Tasks are named here by their places among the program's units.
use Rattle.std.specs.Prelude.{ℕ, ◌==◌, List, map, filter, flat_map}
use Rattle.arrivals_tree.specs.declared.arrivals.Arrival.{Arrival}
use Rattle.arrivals_tree.specs.declared.arrivals.Arrivals as values

-- how long the next `work` statements of a task take
pub record Durations : Type 0 where
  pub task : ℕ
  pub ticks : List ℕ

-- what is handed to a run
pub record Arrivals : Type 0 where
  pub until : ℕ
  pub work : List Durations
  pub items : List Arrival

-- the tree of arrivals of the program
abbrev pub arrivals_of : values.Arrivals → Arrivals
arrivals_of a = record { until = a.until; work = map (λ w. record { task = w.task; ticks = w.ticks.items }) a.work.items; items = a.items.items }

-- a task's lists, joined
abbrev pub durations : Arrivals → ℕ → List ℕ
durations a task = flat_map (λ w. w.ticks) (filter (λ w. w.task == task) a.work)
