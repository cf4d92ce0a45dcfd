use Rattle.std.proofs.Common.{◌≡◌, ◌++◌, map, drop}
use Rattle.std.specs.List.{zip}
use Rattle.ods_tree.specs.Trees.{thread_of}
use Rattle.ada_tree.specs.Trees.{unit_of}
use Rattle.guarantee.specs.Programs.{thread_unit}
use Rattle.ada_gen.proofs.generator.add_threads.Given as goal

-- with the units of the threads that are left, those of all have been added
abbrev pub invariant-threads : goal.invariant-threads
invariant-threads l =
    map unit_of l.units.items
    ++ map thread_unit (zip (map thread_of (drop l.i l.thread-items)) (drop l.i (zip l.order.threads.items l.order.obcs.items)))
    ≡ map unit_of l.initial.units.items ++ map thread_unit (zip (map thread_of l.thread-items) (zip l.order.threads.items l.order.obcs.items))
