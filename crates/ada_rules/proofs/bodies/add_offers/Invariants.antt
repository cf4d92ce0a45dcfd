use Rattle.std.proofs.Common.{◌≡◌, ◌++◌, map, take}
use Rattle.seq_check.specs.Scopes.{offer_view}
use Rattle.ada_rules.specs.Lists.{head_of}
use Rattle.ada_rules.proofs.bodies.add_offers.Given as goal

-- the operations so far are those of the heads so far
abbrev pub invariant-heads : goal.invariant-heads
invariant-heads l = map offer_view l.offers.items ≡ map offer_view l.initial.offers.items
    ++ map (λ h. record { object = l.object; sig = h }) (map head_of (take l.head-index l.heads))
