use Rattle.std.proofs.Common.{◌≡◌, length}
use Rattle.ada_tree.specs.Trees.{program_of}
use Rattle.trace_read.specs.Telling.{told_by}
use Rattle.trace_read.proofs.reads.next_in.Given as goal

-- the lines so far tell none
abbrev pub invariant-lines : goal.invariant-lines
invariant-lines l = told_by (program_of l.table.program.now) l.lines ≡ told_by (program_of l.table.program.now) l.fn.lines

abbrev pub decreases-lines : goal.decreases-lines
decreases-lines l = length l.lines
