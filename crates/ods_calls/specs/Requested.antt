-- How often calls request an object, by what is known of protected operations, and which operations call which.
-- It is the rule on sources, body by body.
use Rattle.std.specs.Prelude.{◌≡◌, ◌⊎◌, ◌&&◌, ℕ, suc, Bool, true, List, [], ◌∷◌, Option, Vec, map, flat_map, fold, max, min, nat_eq, not, if◌then◌else◌}
use Rattle.std.specs.List.{list_any}
use Rattle.seq_tree.specs.Calls.{same_op}
use Rattle.seq_tree.specs.Dearest.{counted}
use Rattle.seq_tree.specs.Names.{Name, same_name}
use Rattle.seq_tree.specs.Statements.{Statements}
use Rattle.seq_tree.specs.declared.tree.OpName.{OpName}
use Rattle.name_sets.specs.Tables.{at, listed, or_0}
use Rattle.name_sets.specs.declared.op_table.OpTable.{OpTable}
use Rattle.ods_tree.specs.Designs.{Design, Object}
use Rattle.ods_tree.specs.Links.{resolve}
use Rattle.ods_tree.specs.Walk.{only_if}
use Rattle.design_rules.specs.Broken.{Broken, V10}
use Rattle.design_rules.specs.Lookups.{is_sporadic}
use Rattle.design_rules.specs.Sources.{breaks_sources, source_count, start_count, starts_within}
use Rattle.ods_index.specs.Calling.{Calls, calls_of}
use Rattle.ods_calls.specs.declared.bodies.Body.{Body}

-- how often a call requests a target, where these operations are required
abbrev pub call_weight : Design → Name → (OpName → ℕ) → List OpName → OpName → ℕ
call_weight x target inner needs name =
    if list_any (same_op name) needs then (if same_name (resolve x name).object target then 1 else inner (resolve x name)) else 0

-- how often a block requests a target on one path, at most
abbrev pub block_count : Design → Name → (OpName → ℕ) → List OpName → Statements → ℕ
block_count x target inner needs b = counted (λ object op. call_weight x target inner needs (record { object = object; op = op })) b

-- what a table knows of an operation
abbrev pub known_in : OpTable ℕ → OpName → ℕ
known_in t name = or_0 (at t name)

-- a table has the counts of operations, told as 2 where they are more
abbrev pub Knows : OpTable ℕ → (OpName → ℕ) → Type 0
Knows t inner = (n : OpName) → known_in t n ≡ min 2 (inner n)

-- whether two tables count differently for an operation
abbrev pub changes : OpTable ℕ → OpTable ℕ → OpName → Bool
changes known counts n = not (nat_eq (known_in known n) (known_in counts n))

-- one, where it is that of an operation of this name
abbrev pub held_named : OpName → Calls → List Calls
held_named n h = if same_op h.name n then h ∷ [] else []

-- how often one requests a target on one path, at most
abbrev pub held_count : Design → Name → (OpName → ℕ) → Calls → ℕ
held_count x target inner h = block_count x target inner h.needs h.block

-- the greatest of some
abbrev pub greatest_count : Design → Name → (OpName → ℕ) → List Calls → ℕ
greatest_count x target inner hs = fold max 0 (map (held_count x target inner) hs)

-- an operation that makes a call, where that is one of an operation, and of an object
abbrev pub op_caller : OpName → OpName → OpName → List OpName
op_caller n from c = if same_op c n then from ∷ [] else []

abbrev pub object_caller : Name → OpName → OpName → List OpName
object_caller name from c = if same_name c.object name then from ∷ [] else []

-- an operation so often as its body calls another, and an object
abbrev pub op_callers : OpName → Calls → List OpName
op_callers n h = flat_map (op_caller n h.name) h.meant

abbrev pub object_callers : Name → Calls → List OpName
object_callers name h = flat_map (object_caller name h.name) h.meant

-- one as it is kept
abbrev pub held_of : Body → Calls
held_of b = calls_of b.calls.now

-- the bodies that are kept for an operation
unfoldable pub bodies_at : {Z : Type 0} → OpTable (Vec Body Z) → OpName → List Calls
bodies_at t name = map held_of (listed (at t name))

-- the operations whose counts change one level deeper are among these
abbrev pub AreDue : Design → Name → ℕ → List OpName → Type 0
AreDue x target depth due =
    (n : OpName) → (list_any (λ c. same_op c n) due ≡ true) ⊎ (min 2 (starts_within depth x target n) ≡ min 2 (starts_within (suc depth) x target n))

-- what is told of the sources of an object
abbrev pub source_fault : Design → Object → Option Broken
source_fault x o = only_if (is_sporadic o.kind && breaks_sources x o) (V10 o.name (source_count x o) (start_count x o))
