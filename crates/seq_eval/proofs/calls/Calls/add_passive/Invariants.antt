use Rattle.std.proofs.Common.{◌≡◌, ◌≤◌, length, drop, find, map, zip}
use Rattle.seq_tree.specs.Runs.{Plain}
use Rattle.seq_tree.specs.Trees.{operation_of}
use Rattle.seq_tree.specs.declared.tree.OpName.{OpName}
use Rattle.seq_eval.specs.Following.{is_plain}
use Rattle.seq_eval.specs.Calls.{callee_of, first_callee, found_in}
use Rattle.seq_eval.proofs.calls.Calls.add_passive.Given as goal

-- those from here on are there
abbrev pub invariant-passive : goal.invariant-passive
invariant-passive l = record {
  within : l.at ≤ length l.passive;
  added : (n : OpName) → callee_of (found_in l.self n)
      ≡ first_callee (λ o. Plain o.1) (find (is_plain n.object n.op) (zip (drop l.at l.owners) (map operation_of (drop l.at l.passive))))
      (callee_of (found_in l.fn.self n));
}

abbrev pub decreases-passive : goal.decreases-passive
decreases-passive l = l.at
