-- The callers of a design, its protected operations and its threads, by the names under which ways of calls are found.
-- All operations of a target, which a sporadic thread is, have one name here, so that its requests are counted together.
use Rattle.std.specs.Prelude.{Bool, false, ◌&&◌, List, Some, is_some, filter, flat_map, map, option_to_list, if◌then◌else◌}
use Rattle.std.specs.List.{list_any}
use Rattle.seq_tree.specs.Calls.{same_op}
use Rattle.seq_tree.specs.Names.{Name, same_name}
use Rattle.seq_tree.specs.Statements.{Statements}
use Rattle.seq_tree.specs.declared.tree.OpName.{OpName}
use Rattle.name_sets.specs.Places.{place_in}
use Rattle.name_sets.specs.declared.places.Places.{Places}
use Rattle.call_graph.specs.Listed.{block_listed}
use Rattle.call_graph.specs.Once.{CallerTree}
use Rattle.ods_tree.specs.Designs.{Design, Object}
use Rattle.ods_tree.specs.Links.{resolve}
use Rattle.ods_index.specs.Calling.{Calls}
use Rattle.design_rules.specs.Lookups.{is_sporadic}

-- whether an object of a name is sporadic, and whether one of these is
abbrev pub is_target : Name → Object → Bool
is_target n o = is_sporadic o.kind && same_name o.name n

abbrev pub has_target : List Object → Name → Bool
has_target os n = list_any (is_target n) os

-- the name of a target
abbrev pub target_key : Name → OpName
target_key n = record { object = n; op = n }

-- the name by which the way of an operation is found
abbrev pub key : Places → OpName → OpName
key t m = if is_some (place_in t m.object) then target_key m.object else m

-- those of what a block calls, as it is required, links followed, those inside loops twice
abbrev pub keys_in : Places → Design → List OpName → Statements → List OpName
keys_in t x needs b = map (λ c. key t (resolve x c)) (filter (λ c. list_any (same_op c) needs) (block_listed false b))

-- those of the thread of an object, where it has one
abbrev pub thread_keys : Places → Design → Object → List OpName
thread_keys t x o = flat_map (keys_in t x o.needs) (option_to_list o.thread)

-- a body of a protected operation
abbrev pub held_caller : Places → Design → Calls → CallerTree
held_caller t x h = record { from = Some (key t h.name); calls = keys_in t x h.needs h.block }
