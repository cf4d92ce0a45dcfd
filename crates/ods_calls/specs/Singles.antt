-- The sporadic threads that show at once to have one source: those with a way, where ways fit all callers of a design.
-- All threads together are one caller there.
use Rattle.std.specs.Prelude.{Bool, false, ◌&&◌, List, Option, Some, None, is_some, flat_map}
use Rattle.seq_tree.specs.Names.{Name}
use Rattle.name_sets.specs.Places.{place_in}
use Rattle.name_sets.specs.declared.places.Places.{Places}
use Rattle.call_graph.specs.Once.{CallerTree, depth_at}
use Rattle.call_graph.specs.declared.ways.Ways.{Ways}
use Rattle.ods_tree.specs.Designs.{Design, Object}
use Rattle.ods_calls.specs.Keys.{target_key, thread_keys}
use Rattle.ods_calls.specs.declared.once.Once.{Once}

-- all threads, as if they were one
abbrev pub threads_caller : Places → Design → List Object → CallerTree
threads_caller t x os = record { from = None; calls = flat_map (thread_keys t x) os }

-- whether a target has a way
abbrev pub has_way : Option Ways → Name → Bool
has_way None n = false
has_way (Some w) n = is_some (depth_at w (target_key n))

abbrev pub is_once : Once → Name → Bool
is_once t n = is_some (place_in t.targets n) && has_way t.ways n
