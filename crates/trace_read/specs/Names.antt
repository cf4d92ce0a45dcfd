-- The units and the operations of a program by their names: each has the place of the first of its name.
-- Places count from 0.
use Rattle.std.specs.Prelude.{ℕ, List, map, Option, option_and_then, slice_get}
use Rattle.seq_tree.specs.Names.{Name}
use Rattle.name_sets.specs.FirstPlaces.{place_from}
use Rattle.ada_tree.specs.Programs.{Program, Form, Unit}
use Rattle.ada_tree.specs.Bodies.{heads}

-- the names of the operations of a unit
abbrev pub head_names : Form → List Name
head_names form = map (λ h. h.name) (heads form)

-- the place of the unit of a name
unfoldable pub unit_of_name : Program → Name → Option ℕ
unit_of_name p name = place_from 0 name (map (λ u. u.name) p.units)

-- the place of the operation of a name in the unit at a place
abbrev pub op_among : List Unit → ℕ → Name → Option ℕ
op_among units unit name = option_and_then (λ u. place_from 0 name (head_names u.form)) (slice_get units unit)

unfoldable pub op_of_name : Program → ℕ → Name → Option ℕ
op_of_name p unit name = op_among p.units unit name
