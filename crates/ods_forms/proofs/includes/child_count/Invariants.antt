use Rattle.std.proofs.Common.{◌≡◌, ◌+◌, ◌≤◌, ◌==◌, drop, filter, length, map}
use Rattle.design_rules.specs.Includes.{kind_place}
use Rattle.ods_index.specs.Walking.{object_of}
use Rattle.ods_forms.proofs.includes.child_count.Given as goal

-- those so far, and those that are left
abbrev pub invariant-children : goal.invariant-children
invariant-children l = record {
  counted : l.count + length (filter (λ c. kind_place c.kind == kind_place l.kind) (map object_of (drop l.child-index l.children)))
      ≡ length (filter (λ c. kind_place c.kind == kind_place l.kind) (map object_of l.children));
  few : l.count ≤ l.child-index;
}
