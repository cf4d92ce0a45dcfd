use Rattle.std.proofs.Common.{◌≡◌, length, map, sym, subst, ap, ◌∙◌}
use Rattle.std.specs.Prelude.{IfOk, is_some, option_map}
use Rattle.seq_tree.specs.Operations.{out_names}
use Rattle.seq_tree.specs.Trees.{expression_of}
use Rattle.seq_tree.specs.Values.{handed}
use Rattle.seq_tree.specs.Variables.{targets}
use Rattle.seq_tree.specs.declared.tree.OpName.{OpName}
use Rattle.law_walks.specs.Walks.{sees_entry}
use Rattle.seq_eval.specs.States.{state_of}
use Rattle.seq_eval.specs.Stepping.{State, left_by, moved}
use Rattle.seq_eval.proofs.NextSteps.{entry-some, told-so}
use Rattle.seq_eval.proofs.walk.Walk.pass.Goals as goal

pub returns : goal.returns
returns g c =
    let w = c.args.self.now in
    let name : OpName = record { object = c.args.object.now; op = c.args.op.now } in
    let params = c.args.params.now in
    let actuals = map expression_of c.args.actuals.now in
    let values = handed params actuals w.vars in
    let s : State = state_of g.S.Actions.meaning w in
    let us = g.S.Actions.meaning w.script in
    let after : State = state_of g.S.Actions.meaning c.leave_op.new.self in
    let next = sym c.enters.ensures ∙ ap (option_map (λ r. r.now)) c.in-Some.is in
    let entered = entry-some name values us c.in-Some.values.now next ∙ sym c.hands.ensures ∙ c.if-not-hands.false in
    subst (λ made. IfOk c.leave_op.result (λ on. moved on after ≡ made))
    (sym (told-so (λ a. is_some (sees_entry name values a)) us (g.S.Actions.meaning c.pass.new.self) s
    (λ t. left_by c.args.costs.now name (length (out_names params)) (targets params actuals) t.script t) entered c.in_ok-pass.ensures))
    c.leave_op.ensures
