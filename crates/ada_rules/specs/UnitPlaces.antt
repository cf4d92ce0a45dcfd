-- The places of units, found by the places of their operations, and the earlier of two.
-- Places count from 0.
use Rattle.std.specs.Prelude.{ℕ, List, Option, Some, None, if◌then◌else◌, nat_lt, slice_get}
use Rattle.seq_tree.specs.Names.{Name}
use Rattle.ada_rules.specs.Callers.{Caller}

-- the place of the unit of an operation
abbrev pub unit_by : (Name → Option ℕ) → Option Caller → Option ℕ
unit_by unit None = None
unit_by unit (Some c) = unit c.name.object

-- that of the operation at a place
abbrev pub unit_at : (Name → Option ℕ) → List Caller → Option ℕ → Option ℕ
unit_at unit cs None = None
unit_at unit cs (Some op) = unit_by unit (slice_get cs op)

-- the earlier of two places, where there are any
abbrev pub earlier : Option ℕ → Option ℕ → Option ℕ
earlier None other = other
earlier (Some a) None = Some a
earlier (Some a) (Some b) = if nat_lt b a then Some b else Some a
