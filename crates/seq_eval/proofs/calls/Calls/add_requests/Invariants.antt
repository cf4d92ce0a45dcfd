use Rattle.std.proofs.Common.{◌≡◌, ◌≤◌, length, drop, find, map}
use Rattle.seq_tree.specs.Runs.{Asked}
use Rattle.seq_tree.specs.Trees.{offer_of}
use Rattle.seq_tree.specs.declared.tree.OpName.{OpName}
use Rattle.seq_eval.specs.Following.{is_offered}
use Rattle.seq_eval.specs.Calls.{callee_of, first_callee, found_in}
use Rattle.seq_eval.proofs.calls.Calls.add_requests.Given as goal

-- those from here on are there
abbrev pub invariant-requests : goal.invariant-requests
invariant-requests l = record {
  within : l.at ≤ length l.requests;
  added : (n : OpName) → callee_of (found_in l.self n)
      ≡ first_callee (λ o. Asked) (find (is_offered n.object n.op) (map offer_of (drop l.at l.requests))) (callee_of (found_in l.fn.self n));
}

abbrev pub decreases-requests : goal.decreases-requests
decreases-requests l = l.at
