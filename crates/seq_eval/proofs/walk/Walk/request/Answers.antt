use Rattle.std.proofs.Common.{◌≡◌, ℕ, ◌+◌, ◌*◌, true, false, sym, ap, map, ◌∙◌, Option, Ok}
use Rattle.std.specs.Prelude.{is_some}
use Rattle.seq_tree.specs.Runs.{request_value}
use Rattle.seq_tree.specs.Trees.{expression_of}
use Rattle.seq_tree.specs.declared.tree.OpName.{OpName}
use Rattle.law_walks.specs.Walks.{sees_request}
use Rattle.seq_eval.specs.States.{state_of}
use Rattle.seq_eval.specs.Stepping.{State, at_script, spent}
use Rattle.seq_eval.proofs.NextSteps.{asked-next, told-not, told-so}
use Rattle.seq_eval.proofs.walk.Walk.request.Goals as goal

pub returns-then-not-requests : goal.returns-then-not-requests
returns-then-not-requests g c =
    let w = c.args.self.now in
    let name : OpName = record { object = c.args.object.now; op = c.args.op.now } in
    let ticks : ℕ = c.args.costs.now.call + 2 * c.args.costs.now.assign in
    let value : Option ℕ = request_value (map expression_of c.args.actuals.now) w.vars in
    let us = g.S.Actions.meaning w.script in
    sym (told-not (λ a. is_some (sees_request name value a)) us (state_of g.S.Actions.meaning w) (λ t. Ok (spent ticks ticks t))
    (asked-next name c.asked-value.result value us c.requests.result false c.asked-value.ensures c.requests.ensures c.if-not-requests.true))

pub returns : goal.returns
returns g c =
    let w = c.args.self.now in
    let name : OpName = record { object = c.args.object.now; op = c.args.op.now } in
    let call = c.args.costs.now.call in
    let ticks : ℕ = call + 2 * c.args.costs.now.assign in
    let value : Option ℕ = request_value (map expression_of c.args.actuals.now) w.vars in
    let s : State = state_of g.S.Actions.meaning w in
    let us = g.S.Actions.meaning w.script in
    let rest = g.S.Actions.meaning c.pass.new.self in
    let spends : c.from.result + 2 * c.from-2.result ≡ ticks
    = ap (λ n. n + 2 * c.from-2.result) c.from.ensures ∙ ap (λ n. call + 2 * n) c.from-2.ensures in
    ap Ok c.spend.ensures ∙ ap (λ n. Ok (spent n n (at_script rest s))) spends
    ∙ sym (told-so (λ a. is_some (sees_request name value a)) us rest s (λ t. Ok (spent ticks ticks t))
    (asked-next name c.asked-value.result value us c.requests.result true c.asked-value.ensures c.requests.ensures c.if-not-requests.false)
    c.in_ok-pass.ensures)
