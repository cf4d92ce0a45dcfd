use Rattle.std.proofs.Common.{◌≡◌, map, drop, nat_lt, length}
use Rattle.std.specs.List.{list_any}
use Rattle.ods_tree.specs.Trees.{provided_of}
use Rattle.ods_forms.proofs.operations.any_long.Given as goal

-- it is up to those that are left
abbrev pub invariant-ops : goal.invariant-ops
invariant-ops l =
    list_any (λ p. nat_lt l.limit (length p.sig.params)) (map provided_of (drop l.provided-index l.provides))
    ≡ list_any (λ p. nat_lt l.limit (length p.sig.params)) (map provided_of l.provides)
