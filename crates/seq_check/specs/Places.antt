-- The scope of the definitions at a place in a body.
-- Inside a loop its name can be read and not assigned, and the body may be left.
use Rattle.seq_tree.specs.Faults.{within_loop}
use Rattle.seq_tree.specs.Faults as faults
use Rattle.seq_check.specs.Scopes.{scope_of}
use Rattle.seq_check.specs.Views.{known_scope}
use Rattle.seq_check.specs.declared.place.Place.{Place, fold-Place}
use Rattle.seq_check.specs.declared.place.Place.TheOpen.{Place-F}
use Rattle.seq_check.specs.declared.place.Place.TheOpen as place

-- what is known at a place, from what is known around the loop
abbrev pub place_layer : Place-F faults.Scope → faults.Scope
place_layer (place.Body scope) = scope_of scope.now
place_layer (place.Known known) = known_scope known.now
place_layer (place.Loop name outer) = within_loop outer.now name.now

-- what is known at a place
abbrev pub place_of : Place → faults.Scope
place_of = fold-Place faults.Scope place_layer
