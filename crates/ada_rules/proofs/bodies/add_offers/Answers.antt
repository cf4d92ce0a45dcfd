use Rattle.std.proofs.Common.{List, map}
use Rattle.std.specs.Borrow.{Bor}
use Rattle.seq_tree.specs.Operations.{Offer, Signature}
use Rattle.seq_tree.specs.declared.tree.OpSig.{OpSig}
use Rattle.seq_check.specs.Scopes.{offer_view}
use Rattle.ada_rules.specs.Lists.{head_of}
use Rattle.ada_rules.proofs.LoopSteps.{maps_last, pushed_step}
use Rattle.ada_rules.proofs.bodies.add_offers.Goals as goal

pub heads-preserved : goal.heads-preserved
heads-preserved c =
    let offer : Signature → Offer = λ h. record { object = c.args.object.now; sig = h } in
    pushed_step offer_view (λ (hs : List (Bor OpSig)). map offer (map head_of hs)) c.args.heads.now c.heads.head-index c.head-item.result _
    c.heads.offers.items c.push.new.self.items _ (maps_last offer head_of c.head-item.result) c.heads-test.true c.head-item.is
    c.in_ok-push.ensures.items c.heads.invariant
