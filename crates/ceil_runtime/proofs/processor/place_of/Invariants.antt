use Rattle.std.proofs.Common.{◌≡◌, drop, map}
use Rattle.std.specs.Prelude.{option_map, ◌==◌}
use Rattle.seq_tree.specs.Lists.{first_from, first_where}
use Rattle.task_runtime.specs.Tasks.{task_of}
use Rattle.ceil_runtime.proofs.processor.place_of.Given as goal

-- none of the tasks so far is of the unit
abbrev pub invariant-tasks : goal.invariant-tasks
invariant-tasks l = record {
  place : l.place ≡ l.task-index;
  others : option_map (λ t. t.0) (first_from l.task-index (λ t. t.thread.unit == l.unit) (map task_of (drop l.task-index l.tasks)))
      ≡ option_map (λ t. t.0) (first_where (λ t. t.thread.unit == l.unit) (map task_of l.tasks));
}
