use Rattle.std.proofs.Common.{◌≡◌, ◌++◌, map, drop}
use Rattle.seq_tree.specs.Names.{Name}
use Rattle.ods_tree.specs.Trees.{thread_of}
use Rattle.analysis.specs.Ceilings.{uses_object}
use Rattle.rt_order.specs.ByNames.{places_at}
use Rattle.rt_order.specs.Numbers.{places_from}
use Rattle.rt_order.proofs.users.threads_by_name.Given as goal

-- the places so far, and those of the threads that are left
abbrev pub invariant-threads : goal.invariant-threads
invariant-threads l =
    (n : Name) → places_at l.places n ++ places_from (uses_object n) l.i (map thread_of (drop l.i l.threads))
    ≡ places_from (uses_object n) 0 (map thread_of l.threads)
