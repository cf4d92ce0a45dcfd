use Rattle.std.proofs.Common.{length, map}
use Rattle.seq_tree.specs.Trees.{expression_of}
use Rattle.seq_tree.specs.Variables.{targets}
use Rattle.linker.specs.Standing.{lists_of}
use Rattle.linker.proofs.Handing.{Targeting}
use Rattle.linker.proofs.actuals.put_targets.Given as goal

-- the targets of the parameters that are left are still to be added
abbrev pub invariant-params : goal.invariant-params
invariant-params l = Targeting l.scope (length l.fn.code.actuals.items) (targets l.params (map expression_of l.actuals)) (lists_of l.fn.code)
    (lists_of l.code) (targets l.left (map expression_of l.rest))

abbrev pub decreases-params : goal.decreases-params
decreases-params l = length l.left
