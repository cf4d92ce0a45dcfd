-- The units of a program that a call may lead to, in order of its units: passive units, protected objects and tasks.
-- Each has its place among all units.
use Rattle.std.specs.Prelude.{ℕ, List, [], map}
use Rattle.ada_tree.specs.Programs.{Unit}
use Rattle.arrivals_tree.specs.Arriving.{Arrivals, durations}
use Rattle.arrivals_tree.specs.declared.arrivals.WorkList.{WorkList}
use Rattle.seq_tree.specs.declared.tree.Costs.{Costs}
use Rattle.machine.specs.Systems.{System, TaskUnit, libraries_from, objects_from, threads_from}

-- lists of durations alone, as they are handed to a run
abbrev pub handed : List WorkList → Arrivals
handed work = record { until = 0; work = map (λ w. record { task = w.task; ticks = w.ticks.items }) work; items = [] }

-- the tasks, with the durations that are handed to them
abbrev pub handed_threads : List WorkList → ℕ → List Unit → List TaskUnit
handed_threads work n us = threads_from (durations (handed work)) n us

-- what calls lead to depends neither on the horizon nor on the costs
abbrev pub no_costs : Costs
no_costs = record { assign = 0; test = 0; turn = 0; call = 0; «nothing» = 0; put = 0; finish = 0 }

-- these units as a system
abbrev pub system_from : List WorkList → List Unit → System
system_from work us = record {
  until = 0;
  costs = no_costs;
  libraries = libraries_from 0 us;
  objects = objects_from 0 us;
  threads = handed_threads work 0 us;
}
