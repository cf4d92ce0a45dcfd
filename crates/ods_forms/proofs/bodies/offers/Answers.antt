use Rattle.std.proofs.Common.{map}
use Rattle.seq_check.specs.Scopes.{offer_view}
use Rattle.ods_tree.specs.Trees.{design_of}
use Rattle.ods_forms.specs.BodyScopes.{offer_by}
use Rattle.ods_forms.proofs.ScopeSteps.{given_added}
use Rattle.ods_forms.proofs.bodies.offers.Goals as goal

pub needs-preserved : goal.needs-preserved
needs-preserved c =
    given_added (offer_by (design_of c.args.index.now.design.now)) c.deref-need-items.result.now c.needs.need-index c.need-item.result
    (map offer_view c.needs.calls.items) _ _ c.needs-test.true c.need-item.is c.in_ok-add_offer.ensures c.needs.invariant
