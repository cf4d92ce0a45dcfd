use Rattle.trace_scripts.specs.Scripts.{shown_of}
use Rattle.trace_scripts.proofs.Holding.{added}
use Rattle.trace_scripts.proofs.insides.add.Goals as goal

pub returns : goal.returns
returns c = λ p es at more.
    added p es c.args.here c.args.event.now at c.shows.result (c.shows.ensures p) (shown_of p es c.args.script.now) (shown_of p es c.add.new.self)
    (c.in_ok-add.ensures p es) more
