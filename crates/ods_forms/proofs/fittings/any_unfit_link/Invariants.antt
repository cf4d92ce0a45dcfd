use Rattle.std.proofs.Common.{◌≡◌, map, drop, not}
use Rattle.std.specs.List.{list_any}
use Rattle.ods_tree.specs.Trees.{provided_of}
use Rattle.design_rules.specs.Fittings.{agrees, child_operation}
use Rattle.design_rules.specs.Lookups.{provided_named}
use Rattle.ods_index.specs.Walking.{object_of}
use Rattle.ods_forms.proofs.fittings.any_unfit_link.Given as goal

-- it is up to those that are left
abbrev pub invariant-links : goal.invariant-links
invariant-links l =
    list_any (λ k. not (agrees (provided_named k.op (map provided_of l.table.provides.now))
    (child_operation (map object_of l.family.children.now) k.to))) (drop l.link-index l.links)
    ≡ list_any (λ k. not (agrees (provided_named k.op (map provided_of l.table.provides.now))
    (child_operation (map object_of l.family.children.now) k.to))) l.links
