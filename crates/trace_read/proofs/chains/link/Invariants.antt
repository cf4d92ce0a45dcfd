use Rattle.std.proofs.Common.{◌≡◌, ◌≤◌, length}
use Rattle.trace_read.specs.Chains.{AreLasts, IsChain, from_out}
use Rattle.trace_read.specs.Deeds.{from_own}
use Rattle.trace_read.specs.Telling.{events_in}
use Rattle.trace_read.specs.Texts.{table_program}
use Rattle.trace_read.proofs.chains.link.Given as goal

-- the tables of the events from an index on
abbrev pub invariant-lines : goal.invariant-lines
invariant-lines l = record {
  at : l.at ≤ length (events_in (table_program l.table) l.text);
  next : IsChain from_own (events_in (table_program l.table) l.text) l.at l.nexts;
  exit : IsChain from_out (events_in (table_program l.table) l.text) l.at l.exits;
  last : AreLasts (events_in (table_program l.table) l.text) l.at l.lasts.items;
  next_wide : length l.nexts.head.items ≡ length (table_program l.table).units;
  exit_wide : length l.exits.head.items ≡ length (table_program l.table).units;
  last_wide : length l.lasts.items ≡ length (table_program l.table).units;
}

-- the events before it
abbrev pub decreases-lines : goal.decreases-lines
decreases-lines l = l.at
