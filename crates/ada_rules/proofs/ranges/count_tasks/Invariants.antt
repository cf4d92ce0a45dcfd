use Rattle.std.proofs.Common.{◌≡◌, ◌+◌, ◌≤◌, length, filter, map, drop}
use Rattle.ada_tree.specs.Programs.{is_task}
use Rattle.ada_tree.specs.Trees.{unit_of}
use Rattle.ada_rules.proofs.ranges.count_tasks.Given as goal

-- those so far, and those that are left
abbrev pub invariant-units : goal.invariant-units
invariant-units l = record {
  counted : l.count + length (filter (λ u. is_task u.form) (map unit_of (drop l.unit-index l.units)))
      ≡ length (filter (λ u. is_task u.form) (map unit_of l.units));
  few : l.count ≤ l.unit-index;
}
