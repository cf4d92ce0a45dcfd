-- Tables of names: each name leads to its place in a list of names.
-- A list has fewer names than 2 ^ 32, so that places fit the fields of an event.
use Rattle.std.specs.Prelude.{◌≡◌, ℕ, ◌<◌, List, [], ◌∷◌, length, Option, option_and_then, slice_get, ⊤}
use Rattle.seq_tree.specs.Names.{Name}
use Rattle.ada_tree.specs.Programs.{Unit}
use Rattle.name_sets.specs.Places.{place_in}
use Rattle.name_sets.specs.declared.places.Places.{Places}
use Rattle.name_sets.specs.FirstPlaces.{place_from}
use Rattle.trace_read.specs.Names.{head_names}

-- a table of a list of names
pub record IsTable (names : List Name) (t : Places) : Type 0 where
  pub places : (n : Name) → place_in t n ≡ place_from 0 n names
  pub few : length names < 4294967296

-- tables of the names of the operations of units
abbrev pub AreTables : List Unit → List Places → Type 0
AreTables [] [] = ⊤
AreTables [] (t ∷ ts) = ⊥
AreTables (u ∷ us) [] = ⊥
AreTables (u ∷ us) (t ∷ ts) = IsTable (head_names u.form) t × AreTables us ts

-- the place of an operation by tables, one for each unit
abbrev pub op_by : List Places → ℕ → Name → Option ℕ
op_by tables unit name = option_and_then (λ t. place_in t name) (slice_get tables unit)
