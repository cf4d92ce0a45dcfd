use Rattle.std.proofs.Common.{◌≡◌, ◌≤◌, [], length}
use Rattle.trace_read.specs.Reading.{values_from}
use Rattle.trace_read.proofs.events.values_of.Given as goal

-- the values so far, and those of the words that are left
abbrev pub invariant-values : goal.invariant-values
invariant-values l = record { few : length l.values ≤ 8; left : values_from l.values l.words ≡ values_from [] l.fn.words }

-- the words that are left
abbrev pub decreases-values : goal.decreases-values
decreases-values l = length l.words
