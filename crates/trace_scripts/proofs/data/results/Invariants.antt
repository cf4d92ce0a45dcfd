use Rattle.std.proofs.Common.{◌≡◌, ◌++◌, length}
use Rattle.seq_tree.specs.Operations.{out_names}
use Rattle.seq_tree.specs.Variables.{reads}
use Rattle.trace_scripts.proofs.data.results.Given as goal

-- the values of the parameters so far are there
abbrev pub invariant-params : goal.invariant-params
invariant-params l = l.values.items ++ reads (out_names l.left) l.env.slots.items ≡ reads (out_names l.params) l.env.slots.items

abbrev pub decreases-params : goal.decreases-params
decreases-params l = length l.left
