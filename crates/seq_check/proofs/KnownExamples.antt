-- Examples of what is known in a body, each beside one that fails.
use Rattle.std.proofs.Common.{◌≡◌, true, false, [], ◌∷◌, Some, None, refl}
use Rattle.seq_tree.specs.Faults as faults
use Rattle.seq_tree.specs.Names.{is_named}
use Rattle.seq_tree.specs.Operations.{Offer}
use Rattle.seq_tree.specs.declared.tree.Param.{Param}
use Rattle.seq_tree.specs.declared.tree.Mode.TheVariants.{In, Out}
use Rattle.seq_tree.specs.declared.tree.Datum.{Datum}
use Rattle.seq_check.specs.Scopes.{found_in, scope_with}

abbrev v : Datum
v = record { name = 118 ∷ []; value = 1 }

abbrev given : Param
given = record { name = 97 ∷ []; mode = In }

abbrev taken : Param
taken = record { name = 98 ∷ []; mode = Out }

abbrev known : faults.Scope
known = scope_with (v ∷ []) [] (given ∷ taken ∷ []) []

-- a parameter that hands a value in can be read and not assigned
read : is_named known.reads (97 ∷ []) ≡ true
read = refl

not_assigned : is_named known.writes (97 ∷ []) ≡ false
not_assigned = refl

assigned : is_named known.writes (98 ∷ []) ≡ true
assigned = refl

-- of two operations of one name the first is found, and none of another name
abbrev one : Offer
one = record { object = 112 ∷ []; sig = record { name = 102 ∷ []; params = [] } }

abbrev other : Offer
other = record { object = 112 ∷ []; sig = record { name = 102 ∷ []; params = given ∷ [] } }

found : found_in (record { object = 112 ∷ []; op = 102 ∷ [] }) (one ∷ other ∷ []) ≡ Some one
found = refl

not_found : found_in (record { object = 112 ∷ []; op = 103 ∷ [] }) (one ∷ other ∷ []) ≡ None
not_found = refl
