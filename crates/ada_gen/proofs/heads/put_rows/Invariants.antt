use Rattle.std.proofs.Common.{◌≡◌, ◌≤◌, ◌++◌, length, drop}
use Rattle.std.specs.List.{zip}
use Rattle.ods_tree.specs.Trees.{flat_of}
use Rattle.analysis.specs.Trees.{ranks_of}
use Rattle.ada_gen.specs.Rows.{rows}
use Rattle.ada_gen.proofs.heads.put_rows.Given as goal

-- what was there is kept, and with the comments of the rows that are left those of all have been added
abbrev pub invariant-rows : goal.invariant-rows
invariant-rows l =
    (length l.initial.into.items ≤ length l.into.items)
    × (l.into.items ++ rows (flat_of l.flat) (ranks_of l.order) (zip (drop l.i l.table.thread.items) (drop l.i l.bounds))
    ≡ l.initial.into.items ++ rows (flat_of l.flat) (ranks_of l.order) (zip l.table.thread.items l.bounds))
