-- Places by names, and how they are while a place is added to some names.
-- A place is added once to a name: a set has the names to which it was added.
use Rattle.std.specs.Prelude.{◌≡◌, ℕ, List, ◌++◌}
use Rattle.seq_tree.specs.Names.{Name}
use Rattle.name_sets.specs.Sets.{has}
use Rattle.name_sets.specs.Tables.{listed, named}
use Rattle.name_sets.specs.declared.sets.Names.{Names}
use Rattle.rt_order.specs.Numbers.{place_if}
use Rattle.rt_order.specs.declared.by_name.PlacesByName.{PlacesByName}

-- the places of a name
unfoldable pub places_at : PlacesByName → Name → List ℕ
places_at t name = listed (named t.lists name)

-- the places of each name are those before, and this one for the names of the set
abbrev pub IsMarked : (Name → List ℕ) → ℕ → PlacesByName → Names → Type 0
IsMarked before place t seen = (n : Name) → places_at t n ≡ before n ++ place_if (has seen n) place
