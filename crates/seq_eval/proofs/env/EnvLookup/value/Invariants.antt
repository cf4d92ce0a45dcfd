use Rattle.std.proofs.Common.{◌≡◌, drop, find}
use Rattle.seq_eval.specs.Lookups.{has_name}
use Rattle.seq_eval.proofs.env.EnvLookup.value.Given as goal

-- the first variable of that name stands among the slots that are left
abbrev pub invariant-slots : goal.invariant-slots
invariant-slots l = find (has_name l.name) (drop l.slot-index l.slot-items) ≡ find (has_name l.name) l.slot-items
