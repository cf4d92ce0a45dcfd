-- The threads that reach an object, found from what leads to it.
-- A thread reaches an object of which it calls an operation itself, or where it calls what leads to one.
use Rattle.std.specs.Prelude.{Bool, ◌||◌, List}
use Rattle.std.specs.List.{list_any}
use Rattle.seq_tree.specs.Names.{Name, same_name}
use Rattle.seq_tree.specs.declared.tree.OpName.{OpName}
use Rattle.ods_tree.specs.Designs.{Design, Object}
use Rattle.ods_calls.specs.Spreading.{direct_calls}

-- whether one of these is an operation of an object, or leads to one
abbrev pub any_leads : Name → (OpName → Bool) → List OpName → Bool
any_leads target leads cs = list_any (λ m. same_name m.object target || leads m) cs

-- whether the thread of an object calls one
abbrev pub reaches_by : Design → Name → (OpName → Bool) → Object → Bool
reaches_by x target leads o = any_leads target leads (direct_calls x o)
