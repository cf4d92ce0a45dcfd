-- Values by names and by operations.
-- A name leads to a place, and its value stands there.
use Rattle.std.specs.Prelude.{ℕ, List, [], Option, Some, None, Vec, option_and_then, option_map, slice_get, unwrap_or}
use Rattle.seq_tree.specs.Names.{Name}
use Rattle.seq_tree.specs.declared.tree.OpName.{OpName}
use Rattle.name_sets.specs.OpPlaces.{op_place_in}
use Rattle.name_sets.specs.Places.{place_in}
use Rattle.name_sets.specs.declared.name_table.NameTable.{NameTable}
use Rattle.name_sets.specs.declared.op_table.OpTable.{OpTable}

-- the value of a name, where it has one
unfoldable pub named : {V : Type 0} → NameTable V → Name → Option V
named t name = option_and_then (slice_get t.values.items) (place_in t.places name)

-- the value of an operation, where it has one
unfoldable pub at : {V : Type 0} → OpTable V → OpName → Option V
at t name = option_and_then (slice_get t.values.items) (op_place_in t.places name)

-- those that stand in a list, where there is one
abbrev pub listed : {V Z : Type 0} → Option (Vec V Z) → List V
listed o = unwrap_or (option_map (λ v. v.items) o) []

-- a number, or 0
abbrev pub or_0 : Option ℕ → ℕ
or_0 None = 0
or_0 (Some n) = n

-- the number of an operation, and 0 where it has none
abbrev pub number_at : OpTable ℕ → Name → Name → ℕ
number_at t object op = or_0 (at t (record { object = object; op = op }))
