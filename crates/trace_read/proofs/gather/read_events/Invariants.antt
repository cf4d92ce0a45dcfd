use Rattle.std.proofs.Common.{◌≡◌, ◌≤◌, drop, length}
use Rattle.trace_read.specs.Texts.{table_program, text_left, text_program}
use Rattle.trace_read.proofs.Gathering.{Counted}
use Rattle.trace_read.proofs.gather.read_events.Given as goal

-- the lines so far, and the bytes that are left
abbrev pub invariant-lines : goal.invariant-lines
invariant-lines l = record {
  program : text_program l.lines ≡ table_program l.table;
  counted : Counted (table_program l.table) l.text (text_left l.lines) l.starts.items;
  within : l.start ≤ length l.text;
  start : drop l.start l.text ≡ text_left l.lines;
}

-- the bytes that are left
abbrev pub decreases-lines : goal.decreases-lines
decreases-lines l = length (text_left l.lines)
