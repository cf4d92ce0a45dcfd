use Rattle.std.proofs.Common.{◌≡◌, map, drop, not, ◌==◌}
use Rattle.std.specs.List.{list_any}
use Rattle.ods_tree.specs.Trees.{provided_of}
use Rattle.design_rules.specs.Fittings.{link_count}
use Rattle.ods_index.specs.Walking.{object_of}
use Rattle.ods_forms.proofs.fittings.any_unlinked.Given as goal

-- it is up to those that are left
abbrev pub invariant-ops : goal.invariant-ops
invariant-ops l =
    list_any (λ p. not (link_count (object_of l.node) p.sig.name == 1)) (map provided_of (drop l.provided-index l.provides))
    ≡ list_any (λ p. not (link_count (object_of l.node) p.sig.name == 1)) (map provided_of l.provides)
