use Rattle.std.proofs.Common.{◌≡◌, List, false, get_or, map, Some, ap, ◌∙◌, ℕ}
use Rattle.std.proofs.lemmas.Result.{IfOk-weaker}
use Rattle.std.specs.List.{list_any}
use Rattle.seq_tree.specs.Names.{Name}
use Rattle.seq_tree.specs.declared.tree.OpName.{OpName}
use Rattle.ods_tree.specs.Trees.{design_of}
use Rattle.ods_index.specs.Walking.{object_of}
use Rattle.ods_calls.specs.Spotted.{spot_in}
use Rattle.ods_calls.specs.Spreading.{direct_calls, led, reaches}
use Rattle.ods_calls.specs.Starting.{Thread}
use Rattle.ods_calls.proofs.StartReach.{reached-led}
use Rattle.ods_calls.proofs.starts.Starts.reached.Goals as goal
use Rattle.seq_cost.specs.Different.{call_of}

pub returns : goal.returns
returns c =
    let self = c.args.self.now in
    let x = design_of self.links.now.design.now in
    let o = object_of c.args.node.now in
    let calls = map call_of c.as_slice.result.now in
    let same : calls ≡ direct_calls x o = ap (map call_of) c.as_slice.ensures.value ∙ c.in_ok-starts.ensures in
    IfOk-weaker c.led_to.result
    (λ v. (n : Name) (p : ℕ) → spot_in self.spots (Thread n) ≡ Some p → get_or v.items p false ≡ list_any (led x n) calls)
    (λ v. (n : Name) (p : ℕ) → spot_in self.spots (Thread n) ≡ Some p → get_or v.items p false ≡ reaches x o n)
    (λ v h n p e. h n p e ∙ ap (λ (ks : List OpName). list_any (led x n) ks) same ∙ reached-led x n o) c.led_to.ensures
