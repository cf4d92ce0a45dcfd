-- Numbers by operations.
-- The name of an object leads to a place, and the numbers of its operations stand there.
use Rattle.std.specs.Prelude.{ℕ, Option, option_and_then, slice_get}
use Rattle.seq_tree.specs.declared.tree.OpName.{OpName}
use Rattle.name_sets.specs.Places.{place_in}
use Rattle.name_sets.specs.declared.op_places.OpPlaces.{OpPlaces}

-- the number of an operation, where it has one
unfoldable pub op_place_in : OpPlaces → OpName → Option ℕ
op_place_in t name = option_and_then (λ places. place_in places name.op) (option_and_then (slice_get t.ops.items) (place_in t.objects name.object))
