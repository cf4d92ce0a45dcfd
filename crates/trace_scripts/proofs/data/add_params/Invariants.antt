use Rattle.std.proofs.Common.{◌≡◌, ◌++◌, drop}
use Rattle.seq_tree.specs.Variables.{entered}
use Rattle.trace_scripts.proofs.data.add_params.Given as goal

-- the parameters so far are there
abbrev pub invariant-params : goal.invariant-params
invariant-params l = l.env.slots.items ++ entered (drop l.param-index l.params) l.left ≡ l.fn.env.slots.items ++ entered l.params l.values
