use Rattle.std.proofs.Common.{◌≡◌, ◌≤◌, length, map, drop}
use Rattle.seq_tree.specs.Names.{Name}
use Rattle.ada_tree.specs.Trees.{unit_of}
use Rattle.name_sets.specs.Places.{place_in}
use Rattle.arrivals_read.specs.Tables.{first_place}
use Rattle.arrivals_read.proofs.units.Units.new.Given as goal

-- the places of the units from this one on
abbrev pub invariant-units : goal.invariant-units
invariant-units l = (l.place ≤ length l.program.units.items)
    × ((n : Name) → place_in l.places n ≡ first_place l.place n (map unit_of (drop l.place l.program.units.items)))

-- the units that are left
abbrev pub decreases-units : goal.decreases-units
decreases-units l = l.place
