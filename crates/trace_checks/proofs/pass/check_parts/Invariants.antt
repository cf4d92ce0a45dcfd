use Rattle.std.proofs.Common.{◌≡◌, length}
use Rattle.ada_tree.specs.Trees.{program_of}
use Rattle.trace_read.specs.Texts.{text_left, text_program}
use Rattle.trace_checks.specs.Passing.{Passing}
use Rattle.trace_checks.proofs.pass.check_parts.Given as goal

-- a pass up to the bytes that are left
abbrev pub invariant-lines : goal.invariant-lines
invariant-lines l = record {
  program : text_program l.lines ≡ program_of l.program;
  passing : Passing (program_of l.program) l.arrivals.until l.arrivals.items.items l.trace (text_left l.lines) l.count l.parts;
}

-- the bytes that are left
abbrev pub decreases-lines : goal.decreases-lines
decreases-lines l = length (text_left l.lines)
