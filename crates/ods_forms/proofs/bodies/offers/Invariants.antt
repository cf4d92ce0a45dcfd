use Rattle.std.proofs.Common.{◌≡◌, ◌++◌, map, filter_map, drop}
use Rattle.seq_check.specs.Scopes.{offer_view}
use Rattle.ods_tree.specs.Trees.{design_of}
use Rattle.design_rules.specs.Bodies.{offers}
use Rattle.ods_forms.specs.BodyScopes.{offer_by}
use Rattle.ods_index.specs.Walking.{object_of}
use Rattle.ods_forms.proofs.bodies.offers.Given as goal

-- the operations so far, and those of the needs that are left
abbrev pub invariant-needs : goal.invariant-needs
invariant-needs l = map offer_view l.calls.items ++ filter_map (offer_by (design_of l.index.design.now)) (drop l.need-index l.need-items)
    ≡ offers (design_of l.index.design.now) (object_of l.node)
