-- What tables keep of the places of the graph of starts.
-- Of those of one name a table has the place that was put last.
use Rattle.std.specs.Prelude.{ℕ, Bool, false, List, Option, Some, None, get_or}
use Rattle.name_sets.specs.Places.{place_in}
use Rattle.name_sets.specs.Tables.{at}
use Rattle.seq_cost.specs.Different.{call_of}
use Rattle.ods_calls.specs.Starting.{Spot}
use Rattle.ods_calls.specs.Starting as spots
use Rattle.ods_calls.specs.declared.spots.Spot as code
use Rattle.ods_calls.specs.declared.spots.Spot.TheVariants as variant
use Rattle.ods_calls.specs.declared.spots.Spots.{Spots}

-- one that the code keeps
abbrev pub spot_of : code.Spot → Spot
spot_of (variant.Thread name) = spots.Thread name.now
spot_of (variant.Op op) = spots.Op (call_of op)

-- the place that is kept for one
abbrev pub spot_in : Spots → Spot → Option ℕ
spot_in t (spots.Thread n) = place_in t.threads n
spot_in t (spots.Op n) = at t.ops n

-- whether a place is marked, where there is one
abbrev pub marked : List Bool → Option ℕ → Bool
marked marks None = false
marked marks (Some place) = get_or marks place false
