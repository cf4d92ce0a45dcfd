use Rattle.std.proofs.Common.{◌≡◌, drop, ◌<◌, ◌^◌}
use Rattle.seq_tree.specs.Lexis.{value_from}
use Rattle.token_read.proofs.numbers.number_value.Given as goal

-- the digits so far give the value before those left
abbrev pub invariant-digits : goal.invariant-digits
invariant-digits l = record { fits : l.value < 2 ^ 32; left : value_from l.value (drop l.digit-index l.digits) ≡ value_from 0 l.digits }
