use Rattle.std.proofs.Common.{◌≡◌, ◌++◌, drop}
use Rattle.seq_tree.specs.Variables.{kept}
use Rattle.trace_scripts.proofs.data.keep.Given as goal

-- the data so far are there
abbrev pub invariant-vars : goal.invariant-vars
invariant-vars l = l.kept_now.slots.items ++ kept (drop l.var-index l.vars) l.env.slots.items ≡ kept l.vars l.env.slots.items
