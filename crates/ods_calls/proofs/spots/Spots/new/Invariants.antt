use Rattle.std.proofs.Common.{◌≡◌, ◌≤◌, length, map, drop}
use Rattle.ods_calls.specs.Spotted.{spot_in, spot_of}
use Rattle.ods_calls.specs.Starting.{Spot, spot_from}
use Rattle.ods_calls.proofs.spots.Spots.new.Given as goal

-- the places of those from this one on
abbrev pub invariant-spots : goal.invariant-spots
invariant-spots l = (l.place ≤ length l.spots) × ((s : Spot) → spot_in l.table s ≡ spot_from l.place (map spot_of (drop l.place l.spots)) s)

-- those that are left
abbrev pub decreases-spots : goal.decreases-spots
decreases-spots l = l.place
