use Rattle.std.proofs.Common.{◌≡◌, ◌≤◌, ◌++◌, length, drop}
use Rattle.seq_tree.specs.Variables.{written}
use Rattle.seq_eval.proofs.params.open_locals.Given as goal

-- the locals from here on are variables
abbrev pub invariant-locals : goal.invariant-locals
invariant-locals l = record { within : l.at ≤ length l.locals; vars : l.into ≡ written (drop l.at l.locals) ++ l.fn.into }

abbrev pub decreases-locals : goal.decreases-locals
decreases-locals l = l.at
