use Rattle.std.proofs.Common.{◌≡◌, ◌≤◌, length, drop, find, map}
use Rattle.seq_tree.specs.Runs.{Protected}
use Rattle.seq_tree.specs.Trees.{offer_of}
use Rattle.seq_tree.specs.declared.tree.OpName.{OpName}
use Rattle.seq_eval.specs.Following.{is_offered}
use Rattle.seq_eval.specs.Calls.{callee_of, first_callee, found_in}
use Rattle.seq_eval.proofs.calls.Calls.add_shared.Given as goal

-- those from here on are there
abbrev pub invariant-shared : goal.invariant-shared
invariant-shared l = record {
  within : l.at ≤ length l.shared;
  added : (n : OpName) → callee_of (found_in l.self n)
      ≡ first_callee (λ o. Protected o.sig.params) (find (is_offered n.object n.op) (map offer_of (drop l.at l.shared))) (callee_of
      (found_in l.fn.self n));
}

abbrev pub decreases-shared : goal.decreases-shared
decreases-shared l = l.at
