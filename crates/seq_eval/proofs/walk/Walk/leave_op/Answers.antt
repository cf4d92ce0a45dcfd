use Rattle.std.proofs.Common.{ℕ, length, map, sym, ap, ◌∙◌, Ok}
use Rattle.std.proofs.lemmas.Bool.{eq-eqb}
use Rattle.std.specs.Prelude.{option_map}
use Rattle.seq_tree.specs.Operations.{out_names}
use Rattle.seq_tree.specs.Trees.{expression_of}
use Rattle.seq_tree.specs.Variables.{Variables, targets}
use Rattle.seq_tree.specs.declared.tree.OpName.{OpName}
use Rattle.seq_eval.specs.States.{state_of}
use Rattle.seq_eval.specs.Stepping.{State, at_script, spent}
use Rattle.seq_eval.proofs.NextSteps.{exit-so}
use Rattle.seq_eval.proofs.walk.Walk.leave_op.Goals as goal

pub returns : goal.returns
returns g c =
    let w = c.args.self.now in
    let name : OpName = record { object = c.args.object.now; op = c.args.op.now } in
    let params = c.args.params.now in
    let names = targets params (map expression_of c.args.actuals.now) in
    let s : State = state_of g.S.Actions.meaning w in
    let us = g.S.Actions.meaning w.script in
    let rest = g.S.Actions.meaning c.pass.new.self in
    let call : ℕ = c.args.costs.now.call in
    let stored : Variables → State = λ vars. at_script rest (record s { vars = vars }) in
    let results = c.in-Some.results.now in
    let next = sym c.leaves.ensures ∙ ap (option_map (λ r. r.now)) c.in-Some.is in
    let even = eq-eqb (length results) (length (out_names params)) (c.if-results-out_count.false ∙ c.out_count.ensures) in
    ap Ok c.spend.ensures ∙ ap (λ n. Ok (spent n c.from-2.result (stored c.store.new.vars))) c.from.ensures
    ∙ ap (λ n. Ok (spent call n (stored c.store.new.vars))) c.from-2.ensures ∙ ap (λ vars. Ok (spent call call (stored vars))) c.store.ensures
    ∙ sym (exit-so c.args.costs.now name (length (out_names params)) names s us rest results next even c.in_ok-pass.ensures)
