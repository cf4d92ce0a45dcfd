use Rattle.std.proofs.Common.{◌≡◌, List, false, flat_map, get_or, map, Some, ap, ◌∙◌, ℕ}
use Rattle.std.proofs.lemmas.Result.{IfOk-weaker}
use Rattle.std.specs.List.{list_any}
use Rattle.seq_tree.specs.Names.{Name}
use Rattle.seq_tree.specs.declared.tree.OpName.{OpName}
use Rattle.ods_tree.specs.Trees.{design_of}
use Rattle.ods_index.specs.Nodes.{node_object}
use Rattle.ods_calls.specs.Spotted.{spot_in}
use Rattle.ods_calls.specs.Spreading.{direct_calls, led, reaches}
use Rattle.ods_calls.specs.Starting.{Thread}
use Rattle.ods_calls.proofs.StartReach.{any-led}
use Rattle.ods_calls.proofs.starts.Starts.reached_by_any.Goals as goal
use Rattle.seq_cost.specs.Different.{call_of}

pub returns : goal.returns
returns c =
    let self = c.args.self.now in
    let x = design_of self.links.now.design.now in
    let os = map node_object c.args.threads.now in
    let calls = map call_of c.as_slice.result.now in
    let same : calls ≡ flat_map (direct_calls x) os = ap (map call_of) c.as_slice.ensures.value ∙ c.in_ok-starts.ensures in
    IfOk-weaker c.led_to.result
    (λ v. (n : Name) (p : ℕ) → spot_in self.spots (Thread n) ≡ Some p → get_or v.items p false ≡ list_any (led x n) calls)
    (λ v. (n : Name) (p : ℕ) → spot_in self.spots (Thread n) ≡ Some p → get_or v.items p false ≡ list_any (λ o. reaches x o n) os)
    (λ v h n p e. h n p e ∙ ap (λ (ks : List OpName). list_any (led x n) ks) same ∙ any-led x n os) c.led_to.ensures
