-- What is left of a text, and the program of which it has lines.
-- The bytes that were read are no longer there.
use Rattle.std.specs.Prelude.{ℕ, List}
use Rattle.ada_tree.specs.Programs.{Program}
use Rattle.ada_tree.specs.Trees.{program_of}
use Rattle.trace_read.specs.declared.lines.Lines.{Lines}
use Rattle.trace_read.specs.declared.table.Table.{Table}

-- the program of a table of names
abbrev pub table_program : Table → Program
table_program t = program_of t.program.now

-- the program
abbrev pub text_program : Lines → Program
text_program l = program_of l.table.program.now

-- the bytes that are left
abbrev pub text_left : Lines → List ℕ
text_left l = l.left.now
