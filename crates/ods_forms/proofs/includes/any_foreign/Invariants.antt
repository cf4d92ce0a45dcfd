use Rattle.std.proofs.Common.{◌≡◌, map, drop, not}
use Rattle.std.specs.List.{list_any}
use Rattle.design_rules.specs.Includes.{may_include}
use Rattle.ods_index.specs.Walking.{object_of}
use Rattle.ods_forms.proofs.includes.any_foreign.Given as goal

-- it is up to those that are left
abbrev pub invariant-children : goal.invariant-children
invariant-children l =
    list_any (λ c. not (may_include l.kind c.kind)) (map object_of (drop l.child-index l.children))
    ≡ list_any (λ c. not (may_include l.kind c.kind)) (map object_of l.children)
