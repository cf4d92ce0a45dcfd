use Rattle.std.proofs.Common.{rules, ◌≡◌, ◌+◌, Bool, false, is_some, List, map, drop, ap, sym, ◌∙◌}
use Rattle.seq_tree.specs.declared.tree.OpName.{OpName}
use Rattle.seq_tree.proofs.Shared.LoopSteps.{drop_step}
use Rattle.name_sets.specs.Sets.{has_op}
use Rattle.seq_cost.specs.Different.{call_of}
use Rattle.seq_cost.specs.declared.written.Call.{Call}
use Rattle.call_graph.specs.Once.{depth_at, repeats}
use Rattle.call_graph.proofs.WaySteps.{seen_step}
use Rattle.call_graph.proofs.ways.Ways.repeats.Goals as goal

pub calls-preserved : goal.calls-preserved
calls-preserved c =
    let has : OpName → Bool = λ k. is_some (depth_at c.args.self.now k) in
    let calls = c.args.calls.now in
    let step = drop_step calls c.calls.op-index c.op-item.result c.calls-test.true c.op-item.is in
    let new : c.in_ok-sees.field-0 ≡ false = search rules in
    seen_step has (has_op c.calls.seen) (has_op c.sees.new.seen) (call_of c.op-item.result) (map call_of (drop (c.calls.op-index + 1) calls)) _
    (sym c.in_ok-sees.ensures.again ∙ new) c.in_ok-sees.ensures.seen
    (ap (λ (cs : List Call). repeats has (has_op c.calls.seen) (map call_of cs)) (sym step) ∙ c.calls.invariant)
