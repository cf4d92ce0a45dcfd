-- The bodies of the operations of protected objects, with what these require, and what they call.
-- They stand in flattened order, and in each object in its own.
use Rattle.std.specs.Prelude.{Bool, List, filter}
use Rattle.ods_tree.specs.Designs.{Design}
use Rattle.ods_tree.specs.Flattening.{is_protected}
use Rattle.ods_index.specs.Calling.{Calls, design_calls}

-- whether a body is one of a protected object
abbrev pub is_held : Calls → Bool
is_held c = is_protected c.kind

-- those of the terminal protected objects of a design
abbrev pub held_bodies : Design → List Calls
held_bodies x = filter is_held (design_calls x)
