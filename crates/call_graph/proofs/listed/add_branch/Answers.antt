use Rattle.std.proofs.Common.{◌+◌, List, map, drop, ap, sym, ◌∙◌}
use Rattle.seq_tree.proofs.Shared.LoopSteps.{drop_step}
use Rattle.name_sets.specs.Sets.{has_op}
use Rattle.seq_cost.specs.Different.{call_of}
use Rattle.seq_cost.specs.declared.written.Call.{Call}
use Rattle.call_graph.specs.Listed.{listed_all}
use Rattle.call_graph.proofs.ListedSteps.{call_step}
use Rattle.call_graph.proofs.listed.add_branch.Goals as goal

pub calls-preserved : goal.calls-preserved
calls-preserved c =
    let calls = c.args.calls.now in
    let all = map call_of c.calls.listed.items in
    let step = drop_step calls c.calls.call-index c.call-item.result c.calls-test.true c.call-item.is in (
      c.in_ok-add_more.ensures.names,
      call_step (has_op c.calls.seen) (has_op c.add.new.self) all _ (call_of c.call-item.result) (map call_of (drop (c.calls.call-index + 1) calls)) _
          c.in_ok-add.ensures.added c.in_ok-add_more.ensures.listed
          (ap (λ (cs : List Call). listed_all (has_op c.calls.seen) all (map call_of cs)) (sym step) ∙ c.calls.invariant.1),
    )
