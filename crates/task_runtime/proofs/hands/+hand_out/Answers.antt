use Rattle.std.proofs.Common.{◌≡◌, ◌∷◌, ◌++◌, ◌∙◌, rules, ap}
use Rattle.seq_tree.specs.Operations.{out_names}
use Rattle.seq_tree.specs.Variables.{reads}
use Rattle.linker.specs.Slots.{vars_at}
use Rattle.linker.specs.Programs.{param_names}
use Rattle.linker.specs.Scopes.{slots_of}
use Rattle.task_runtime.proofs.Distinct.{hands_in, hands_out}
use Rattle.task_runtime.proofs.hands.+hand_out.Goals as goal

pub returns-in-In : goal.returns-in-In
returns-in-In t c = λ ns e.
    let here : c.args.params.now ≡ c.in-Some.param.now ∷ c.in-Some.params.now = search rules in
    hands_in c.args.params.now c.in-Some.param.now c.in-Some.params.now here c.requires.distinct c.args.top c.args.slots.now.here c.args.values.now
    c.hand_out.new.values ns e c.in-In.is (c.hand_out.ensures ns)

pub returns-in-Out : goal.returns-in-Out
returns-in-Out t c = λ ns e.
    let ps = c.in-Some.params.now in
    let here : c.args.params.now ≡ c.in-Some.param.now ∷ ps = search rules in
    hands_out c.args.params.now c.in-Some.param.now ps here c.requires.distinct c.args.top c.args.slots.now.here c.args.values.now
    c.hand_out-in-Out.new.values ns e c.get.result c.in-Out.is c.get.ensures
    (λ e'. c.hand_out-in-Out.ensures ns e'
    ∙ ap (λ z. z ++ reads (out_names ps) (vars_at (slots_of (param_names ps ++ ns)) c.args.slots.now.here)) c.push.ensures)
