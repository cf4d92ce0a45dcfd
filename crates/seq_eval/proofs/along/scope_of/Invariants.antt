use Rattle.std.proofs.Common.{◌≡◌, ◌≤◌, length, drop}
use Rattle.seq_eval.proofs.along.scope_of.Given as goal

-- the variables from here on are there
abbrev pub invariant-slots : goal.invariant-slots
invariant-slots l = record { within : l.at ≤ length l.env.slots.items; vars : l.vars ≡ drop l.at l.env.slots.items }

abbrev pub decreases-slots : goal.decreases-slots
decreases-slots l = l.at
