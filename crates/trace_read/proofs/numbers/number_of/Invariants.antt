use Rattle.std.proofs.Common.{◌≡◌, drop, ◌<◌, ◌^◌}
use Rattle.trace_read.specs.Reading.{number_from}
use Rattle.trace_read.proofs.numbers.number_of.Given as goal

-- the digits so far give the number before those left
abbrev pub invariant-digits : goal.invariant-digits
invariant-digits l = record { fits : l.value < 2 ^ 64; left : number_from l.value (drop l.digit-index l.word) ≡ number_from 0 l.word }
