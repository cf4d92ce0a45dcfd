use Rattle.std.proofs.Common.{length}
use Rattle.rt_response.specs.Tables.{Each, IsRow}
use Rattle.lower_tests.proofs.bounds.is_table.Given as goal

abbrev pub invariant-rows : goal.invariant-rows
invariant-rows l = Each (IsRow (length l.rows)) l.left → Each (IsRow (length l.rows)) l.rows

abbrev pub decreases-rows : goal.decreases-rows
decreases-rows l = length l.left
