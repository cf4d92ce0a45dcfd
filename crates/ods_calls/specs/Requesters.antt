-- Tables of the operations that call others: of those of protected objects, by what is called.
-- They list an operation as often as its bodies make the call.
use Rattle.std.specs.Prelude.{◌≡◌, List, Vec, flat_map, map}
use Rattle.seq_tree.specs.Names.{Name}
use Rattle.seq_tree.specs.declared.tree.OpName.{OpName}
use Rattle.seq_cost.specs.Different.{call_of}
use Rattle.seq_cost.specs.declared.written.Call.{Call}
use Rattle.name_sets.specs.Tables.{at, listed, named}
use Rattle.name_sets.specs.declared.name_table.NameTable.{NameTable}
use Rattle.name_sets.specs.declared.op_table.OpTable.{OpTable}
use Rattle.ods_tree.specs.Designs.{Design}
use Rattle.ods_calls.specs.Held.{held_bodies}
use Rattle.ods_calls.specs.Requested.{object_callers, op_callers}
use Rattle.ods_calls.specs.declared.callers.Callers.{Callers}

-- the operations that are kept for one that they call, and for the name of an object that they call
unfoldable pub by_op : {Z : Type 0} → OpTable (Vec Call Z) → OpName → List OpName
by_op t name = map call_of (listed (at t name))

unfoldable pub by_object : {Z : Type 0} → NameTable (Vec Call Z) → Name → List OpName
by_object t name = map call_of (listed (named t name))

-- the tables are those of a design
pub record HasCallers (x : Design) (t : Callers) : Type 0 where
  pub ops : (n : OpName) → by_op t.ops n ≡ flat_map (op_callers n) (held_bodies x)
  pub objects : (n : Name) → by_object t.objects n ≡ flat_map (object_callers n) (held_bodies x)
