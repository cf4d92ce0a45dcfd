-- Sets of names and of operations, as tests.
-- What is in a set has a number.
use Rattle.std.specs.Prelude.{Bool, is_some}
use Rattle.seq_tree.specs.Names.{Name}
use Rattle.seq_tree.specs.declared.tree.OpName.{OpName}
use Rattle.name_sets.specs.OpPlaces.{op_place_in}
use Rattle.name_sets.specs.Places.{place_in}
use Rattle.name_sets.specs.declared.sets.Names.{Names}
use Rattle.name_sets.specs.declared.sets.Ops.{Ops}

-- whether a set has a name
unfoldable pub has : Names → Name → Bool
has s name = is_some (place_in s.places name)

-- whether a set has an operation
unfoldable pub has_op : Ops → OpName → Bool
has_op s name = is_some (op_place_in s.places name)
