use Rattle.std.proofs.Common.{◌≡◌, ◌∙◌, [], ◌∷◌, rules, ap, arith, sym}
use Rattle.seq_tree.specs.Variables.{entered}
use Rattle.linker.specs.Slots.{vars_at}
use Rattle.linker.specs.Scopes.{slots_of}
use Rattle.task_runtime.proofs.Openings.{empty_of, entered_in, entered_lacking, entered_out, param_opened}
use Rattle.task_runtime.proofs.opening.+open_params.Goals as goal

pub returns-in-Some-split_first-clause-vars : goal.returns-in-Some-split_first-clause-vars
returns-in-Some-split_first-clause-vars t c = λ ns e.
    let p = c.in-Some.param.now in
    let ps = c.in-Some.params.now in
    let v = c.in-Some-split_first.value.now in
    let vs = c.in-Some-split_first.values.now in
    let here : c.args.params.now ≡ p ∷ ps = search rules in
    let there : c.args.values.now ≡ v ∷ vs = search rules in
    let enters = ap (λ qs. entered qs c.args.values.now) here ∙ ap (entered (p ∷ ps)) there ∙ entered_in p ps v vs c.in-In.is in
    param_opened c.args.params.now p ps here c.args.top v c.put.new.self.here c.open_params.new.slots.here c.args.values.now vs
    (vars_at (slots_of ns) c.args.slots.now.here) ns e (omega (arith, c.requires.room, c.open_params.ensures.len)) c.put.ensures.here enters
    (c.open_params.ensures.vars ns)

pub returns-in-None-clause-vars : goal.returns-in-None-clause-vars
returns-in-None-clause-vars t c = λ ns e.
    let p = c.in-Some.param.now in
    let ps = c.in-Some.params.now in
    let here : c.args.params.now ≡ p ∷ ps = search rules in
    let there : c.args.values.now ≡ [] = empty_of c.args.values.now c.in-None.ensures.cases in
    let enters = ap (λ qs. entered qs c.args.values.now) here ∙ ap (entered (p ∷ ps)) there ∙ entered_lacking p ps c.in-In.is
    ∙ ap (λ vs. (p.name, 0) ∷ entered ps vs) (sym there) in
    param_opened c.args.params.now p ps here c.args.top 0 c.put-in-None.new.self.here c.open_params-in-None.new.slots.here c.args.values.now
    c.args.values.now (vars_at (slots_of ns) c.args.slots.now.here) ns e (omega
    (arith, c.requires.room, c.open_params-in-None.ensures.len)) c.put-in-None.ensures.here enters (c.open_params-in-None.ensures.vars ns)

pub returns-in-Out-clause-vars : goal.returns-in-Out-clause-vars
returns-in-Out-clause-vars t c = λ ns e.
    let p = c.in-Some.param.now in
    let ps = c.in-Some.params.now in
    let here : c.args.params.now ≡ p ∷ ps = search rules in
    let enters = ap (λ qs. entered qs c.args.values.now) here ∙ entered_out p ps c.args.values.now c.in-Out.is in
    param_opened c.args.params.now p ps here c.args.top 0 c.put-in-Out.new.self.here c.open_params-in-Out.new.slots.here c.args.values.now
    c.args.values.now (vars_at (slots_of ns) c.args.slots.now.here) ns e (omega
    (arith, c.requires.room, c.open_params-in-Out.ensures.len)) c.put-in-Out.ensures.here enters (c.open_params-in-Out.ensures.vars ns)
