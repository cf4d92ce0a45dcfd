-- What threads can start: the operations that a thread calls, itself or through protected operations.
-- Of what calls these each operation is found once, in the order in which it was looked for.
use Rattle.std.specs.Prelude.{◌≡◌, Bool, List, [], ◌∷◌, ◌++◌, flat_map, length, if◌then◌else◌, option_to_list}
use Rattle.std.specs.List.{list_any}
use Rattle.seq_tree.specs.Calls.{same_op}
use Rattle.seq_tree.specs.Names.{Name, same_name}
use Rattle.seq_tree.specs.declared.tree.OpName.{OpName}
use Rattle.name_sets.specs.Sets.{has_op}
use Rattle.name_sets.specs.declared.sets.Ops.{Ops}
use Rattle.ods_tree.specs.Designs.{Object, Design}
use Rattle.design_rules.specs.Rings.{calls_within, meant_calls, terminal_ops, thread_calls}

-- an operation more, where it wasn't found before
unfoldable pub found_more : List OpName → OpName → List OpName
found_more all op = if list_any (same_op op) all then all else all ++ op ∷ []

-- operations more
abbrev pub found_all : List OpName → List OpName → List OpName
found_all all [] = all
found_all all (op ∷ ops) = found_all (found_more all op) ops

-- the set of what was found
abbrev pub IsSeen : Ops → List OpName → Type 0
IsSeen s all = (n : OpName) → has_op s n ≡ list_any (same_op n) all

-- whether the thread of an object calls an operation of an object of this name, itself or through protected operations
abbrev pub reaches : Design → Object → Name → Bool
reaches x from name = list_any (λ c. same_name c.object name) (thread_calls x from)

-- what the thread of an object calls itself
abbrev pub direct_calls : Design → Object → List OpName
direct_calls x o = flat_map (meant_calls x o) (option_to_list o.thread)

-- whether an operation is one of an object of this name, and whether a call leads to one through protected operations
abbrev pub of_object : Name → OpName → Bool
of_object name c = same_name c.object name

abbrev pub led : Design → Name → OpName → Bool
led x name c = list_any (of_object name) (calls_within (length (terminal_ops x)) x c)
