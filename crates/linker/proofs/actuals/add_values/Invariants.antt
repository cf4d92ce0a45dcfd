use Rattle.std.proofs.Common.{length, map}
use Rattle.seq_tree.specs.Trees.{expression_of}
use Rattle.linker.specs.Standing.{lists_of, values_in}
use Rattle.linker.proofs.Handing.{Handing}
use Rattle.linker.proofs.actuals.add_values.Given as goal

-- the values of the parameters that are left are still to be added
abbrev pub invariant-params : goal.invariant-params
invariant-params l = Handing l.scope l.first (values_in l.params (map expression_of l.actuals)) (lists_of l.fn.code) (lists_of l.code)
    (values_in l.left (map expression_of l.rest))

abbrev pub decreases-params : goal.decreases-params
decreases-params l = length l.left
