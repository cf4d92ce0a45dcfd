use Rattle.std.proofs.Common.{◌≡◌, ◌++◌, map, take, drop}
use Rattle.ods_tree.specs.Trees.{thread_of}
use Rattle.background.specs.Fronts.{at_once}
use Rattle.background.proofs.slow.set_threads.Given as goal

-- those so far are set, and those that are left unchanged
abbrev pub invariant-threads : goal.invariant-threads
invariant-threads l =
    (map thread_of l.threads ≡ map at_once (take l.place (map thread_of l.initial.threads)) ++ drop l.place (map thread_of l.initial.threads))
