use Rattle.std.proofs.Common.{◌≡◌, drop}
use Rattle.name_sets.specs.Places.{number_behind}
use Rattle.name_sets.proofs.places.number_behind.Given as goal

-- the bytes left lead to the number of all
abbrev pub invariant-bytes : goal.invariant-bytes
invariant-bytes l = number_behind l.number (drop l.byte-index l.bytes) ≡ number_behind l.fn.before l.bytes
