use Rattle.std.proofs.Common.{◌≡◌, ◌++◌, filter_map, length, map, option_map}
use Rattle.std.specs.List.{zip}
use Rattle.ods_tree.specs.Trees.{flat_of}
use Rattle.rt_block.specs.Causes.{cause_of}
use Rattle.explanation.specs.Threads.{reasons_at}
use Rattle.explanation.proofs.threads.reasons_of.Given as goal

-- the threads so far, and those of the rows that are left
abbrev pub invariant-threads : goal.invariant-threads
invariant-threads l =
    l.found.items ++ filter_map (reasons_at (flat_of l.flat))
    (zip l.places (zip l.rows (zip l.reaches (zip (map (option_map cause_of) l.causes) l.priorities))))
    ≡ filter_map (reasons_at (flat_of l.flat))
    (zip l.table.thread.items (zip l.table.rows.items (zip l.fn.reaches (zip (map (option_map cause_of) l.fn.causes) l.fn.priorities))))

abbrev pub decreases-threads : goal.decreases-threads
decreases-threads l = length l.places
