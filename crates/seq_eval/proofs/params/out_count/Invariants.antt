use Rattle.std.proofs.Common.{◌≡◌, ◌≤◌, ◌+◌, length, drop}
use Rattle.seq_tree.specs.Operations.{out_names}
use Rattle.seq_eval.proofs.params.out_count.Given as goal

-- those of the parameters so far are counted
abbrev pub invariant-params : goal.invariant-params
invariant-params l = record {
  few : l.count ≤ l.param-index;
  counted : l.count + length (out_names (drop l.param-index l.params)) ≡ length (out_names l.params);
}
