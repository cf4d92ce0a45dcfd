-- What is known at the beginning of a body by sets and tables, as a scope of the definitions.
-- The sets and tables hold what the lists beside them have.
use Rattle.std.specs.Prelude.{List, map}
use Rattle.seq_tree.specs.Faults as faults
use Rattle.seq_tree.specs.Operations as operations
use Rattle.seq_check.specs.Scopes.{offer_view, scope_with}
use Rattle.seq_check.specs.declared.known.Known.{Known}
use Rattle.seq_check.specs.declared.offers.Calls.{Calls}

-- the operations that can be called
abbrev pub offers_of : Calls → List operations.Offer
offers_of c = map offer_view c.offers.items

-- what is known at the beginning of a body
abbrev pub known_scope : Known → faults.Scope
known_scope k = scope_with k.shared.now.vars.now (offers_of k.calls.now) k.params.now k.locals.now
