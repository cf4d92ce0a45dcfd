use Rattle.std.proofs.Common.{◌≡◌, map, drop, not, nat_le, length}
use Rattle.std.specs.List.{list_any}
use Rattle.ods_tree.specs.Trees.{provided_of}
use Rattle.ods_forms.proofs.operations.any_with_two.Given as goal

-- it is up to those that are left
abbrev pub invariant-ops : goal.invariant-ops
invariant-ops l =
    list_any (λ p. not (nat_le (length p.sig.params) 1)) (map provided_of (drop l.provided-index l.provides))
    ≡ list_any (λ p. not (nat_le (length p.sig.params) 1)) (map provided_of l.provides)
