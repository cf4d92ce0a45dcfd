use Rattle.std.proofs.Common.{◌≡◌, drop, map, option_map}
use Rattle.name_sets.specs.Tables.{at}
use Rattle.seq_tree.specs.Faults.{or_else}
use Rattle.seq_tree.specs.declared.tree.OpName.{OpName}
use Rattle.seq_check.specs.Scopes.{found_in, offer_view}
use Rattle.seq_check.proofs.offers.table_of.Given as goal

-- the operations so far, or those that are left
abbrev pub invariant-offers : goal.invariant-offers
invariant-offers l = (n : OpName) → or_else (option_map offer_view (at l.table n)) (found_in n (map offer_view (drop l.offer-index l.offers)))
    ≡ found_in n (map offer_view l.offers)
