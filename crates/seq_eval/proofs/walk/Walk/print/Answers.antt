use Rattle.std.proofs.Common.{◌≡◌, ℕ, sym, ap, ◌∙◌, Ok}
use Rattle.std.specs.Prelude.{is_some}
use Rattle.law_walks.specs.Walks.{sees_print}
use Rattle.seq_eval.specs.States.{state_of}
use Rattle.seq_eval.specs.Stepping.{at_script, spent}
use Rattle.seq_eval.proofs.NextSteps.{told-not, told-so}
use Rattle.seq_eval.proofs.walk.Walk.print.Goals as goal

pub returns-then-not-prints : goal.returns-then-not-prints
returns-then-not-prints g c =
    let w = c.args.self.now in
    sym (told-not (λ a. is_some (sees_print c.args.value a)) (g.S.Actions.meaning w.script) (state_of g.S.Actions.meaning w)
    (λ t. Ok (spent c.args.costs.now.put c.args.costs.now.put t)) (sym c.prints.ensures ∙ c.if-not-prints.true))

pub returns : goal.returns
returns g c =
    let w = c.args.self.now in
    let put : ℕ = c.args.costs.now.put in
    let rest = g.S.Actions.meaning c.pass.new.self in
    let ticks : c.from-ticks.result ≡ put = c.from-ticks.ensures in
    ap Ok c.spend.ensures ∙ ap (λ n. Ok (spent n n (at_script rest (state_of g.S.Actions.meaning w)))) ticks
    ∙ sym (told-so (λ a. is_some (sees_print c.args.value a)) (g.S.Actions.meaning w.script) rest (state_of g.S.Actions.meaning w)
    (λ t. Ok (spent put put t)) (sym c.prints.ensures ∙ c.if-not-prints.false) c.in_ok-pass.ensures)
