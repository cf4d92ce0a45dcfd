use Rattle.std.proofs.Common.{◌≡◌, ◌++◌, drop}
use Rattle.seq_tree.specs.Variables.{written}
use Rattle.trace_scripts.proofs.data.add_written.Given as goal

-- the variables so far are there
abbrev pub invariant-vars : goal.invariant-vars
invariant-vars l = l.env.slots.items ++ written (drop l.var-index l.vars) ≡ l.fn.env.slots.items ++ written l.vars
