-- Tables of the names of units: the place of the first of a name.
-- Places count from 0, in the order of the program.
use Rattle.std.specs.Prelude.{ℕ, List, Option, option_map}
use Rattle.seq_tree.specs.Names.{Name, same_name}
use Rattle.seq_tree.specs.Lists.{first_from}
use Rattle.ada_tree.specs.Programs.{Unit}

-- the place of the first unit of a name, where the places begin with this one
abbrev pub first_place : ℕ → Name → List Unit → Option ℕ
first_place place name units = option_map (λ u. u.0) (first_from place (λ u. same_name u.name name) units)
