use Rattle.std.proofs.Common.{◌≡◌, refl, rules, true, ◌∙◌}
use Rattle.trace_scripts.proofs.Holding.{shown-more}
use Rattle.trace_scripts.proofs.scripts.Script.add.Goals as goal

pub returns : goal.returns
returns c = λ p es some.
    let yes' : c.args.shows ≡ true = search rules in
    shown-more p es c.args.here c.args.self.now (record c.args.self.now { lines = c.push.new.self }) (some ∙ yes') refl c.in_ok-push.ensures.items
