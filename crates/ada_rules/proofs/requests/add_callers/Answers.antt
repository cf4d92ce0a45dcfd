use Rattle.std.proofs.Common.{◌&&◌, ◌||◌, Bool, List, map, ap, ◌∙◌}
use Rattle.std.proofs.Math.Bool.{or-false}
use Rattle.std.specs.List.{list_any}
use Rattle.name_sets.specs.Sets.{has_op}
use Rattle.name_sets.specs.Tables.{at}
use Rattle.seq_tree.specs.Calls.{same_op}
use Rattle.ada_rules.specs.Callers.{Caller, caller_of, is_marked}
use Rattle.ada_rules.specs.declared.callers.OpCalls.{OpCalls}
use Rattle.ada_rules.proofs.LoopSteps.{any_last, told_step}
use Rattle.ada_rules.proofs.requests.add_callers.Goals as goal

pub callers-preserved : goal.callers-preserved
callers-preserved c = λ n.
    let test : Caller → Bool = λ k. is_marked c.args.marks.now (at c.args.places.now k.name) && list_any (λ o. same_op o n) k.calls in
    let k = c.caller-item.result in
    told_step (λ (cs : List OpCalls). list_any test (map caller_of cs)) c.args.callers.now c.callers.caller-index k (test (caller_of k)) _ _ _
    (any_last test caller_of k) c.callers-test.true c.caller-item.is
    (c.in_ok-add_caller.ensures n ∙ ap (λ b. b || has_op c.callers.called n) (or-false (test (caller_of k)))) (c.callers.invariant n)
