use Rattle.std.proofs.Common.{◌≡◌, map, length}
use Rattle.seq_tree.specs.Faults.{out_actuals, repeats}
use Rattle.seq_tree.specs.Trees.{expression_of}
use Rattle.seq_check.proofs.actuals.repeats_by_pairs.Given as goal

-- what is left repeats exactly where the whole does
abbrev pub invariant-outs : goal.invariant-outs
invariant-outs l = repeats (out_actuals l.params (map expression_of l.actuals)) ≡ repeats (out_actuals l.fn.params (map expression_of l.fn.actuals))

abbrev pub decreases-outs : goal.decreases-outs
decreases-outs l = length l.params
