use Rattle.std.proofs.Common.{◌≡◌, map, drop, not}
use Rattle.std.specs.List.{list_any}
use Rattle.ods_tree.specs.Trees.{body_of, provided_of}
use Rattle.design_rules.specs.Fittings.{is_provided}
use Rattle.design_rules.specs.Lookups.{provided_named}
use Rattle.ods_forms.proofs.fittings.any_stray.Given as goal

-- it is up to those that are left
abbrev pub invariant-bodies : goal.invariant-bodies
invariant-bodies l =
    list_any (λ b. not (is_provided (provided_named b.name (map provided_of l.table.provides.now)))) (map body_of (drop l.body-index l.bodies))
    ≡ list_any (λ b. not (is_provided (provided_named b.name (map provided_of l.table.provides.now)))) (map body_of l.bodies)
