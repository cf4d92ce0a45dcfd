use Rattle.std.proofs.Common.{◌≡◌, ◌≤◌, [], ◌++◌, length, drop}
use Rattle.seq_tree.specs.Variables.{entered}
use Rattle.seq_eval.proofs.params.open_nothing.Given as goal

-- the parameters from here on are variables
abbrev pub invariant-params : goal.invariant-params
invariant-params l = record { within : l.at ≤ length l.params; vars : l.into ≡ entered (drop l.at l.params) [] ++ l.fn.into }

abbrev pub decreases-params : goal.decreases-params
decreases-params l = l.at
