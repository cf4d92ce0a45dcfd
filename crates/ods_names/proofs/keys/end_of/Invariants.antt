use Rattle.std.proofs.Common.{◌≡◌, drop}
use Rattle.name_sets.specs.Places.{number_behind}
use Rattle.ods_names.proofs.keys.end_of.Given as goal

-- the bytes left lead to the number of all
abbrev pub invariant-bytes : goal.invariant-bytes
invariant-bytes l = number_behind l.number (drop l.byte-index l.name) ≡ number_behind 0 l.name
