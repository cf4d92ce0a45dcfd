use Rattle.std.proofs.Common.{◌≡◌, map, drop, flat_map}
use Rattle.ods_tree.specs.Trees.{design_of}
use Rattle.ods_calls.specs.Costed.{over_budgets}
use Rattle.ods_index.specs.Judging.{head_of}
use Rattle.ods_index.specs.Walking.{standing_of}
use Rattle.ods_calls.proofs.budgets.first_bad_budget.Given as goal

-- it is up to the objects that are left
abbrev pub invariant-objects : goal.invariant-objects
invariant-objects l =
    head_of (flat_map (over_budgets (design_of l.priced.links.now.design.now)) (map standing_of (drop l.standing-index l.standing-items)))
    ≡ head_of (flat_map (over_budgets (design_of l.priced.links.now.design.now)) (map standing_of l.index.objects.items))
