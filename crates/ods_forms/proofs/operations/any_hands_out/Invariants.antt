use Rattle.std.proofs.Common.{◌≡◌, map, drop}
use Rattle.std.specs.List.{list_any}
use Rattle.ods_tree.specs.Trees.{provided_of}
use Rattle.design_rules.specs.Operations.{hands_out}
use Rattle.ods_forms.proofs.operations.any_hands_out.Given as goal

-- it is up to those that are left
abbrev pub invariant-ops : goal.invariant-ops
invariant-ops l =
    list_any hands_out (map provided_of (drop l.provided-index l.provides))
    ≡ list_any hands_out (map provided_of l.provides)
