use Rattle.std.proofs.Common.{drop, suc, ◌∙◌}
use Rattle.guarantee.specs.Events.{named_event}
use Rattle.trace_scripts.specs.Scripts.{action_by, shown_of}
use Rattle.trace_scripts.proofs.Looking.{passage-left, passage-open}
use Rattle.trace_scripts.proofs.insides.add_passage.Goals as goal

pub returns-in-None-clause-shown : goal.returns-in-None-clause-shown
returns-in-None-clause-shown c = λ p.
    passage-open p c.args.task (drop (suc c.args.last.now) c.args.events.now) c.in-None.ensures.reached.0
    (action_by p (named_event p c.args.entry.now)) (shown_of p c.args.events.now c.args.script.now)
    (shown_of p c.args.events.now c.add.new.script) (c.in_ok-add.ensures p c.args.events.now c.requires.at)

pub returns-in_ok-add-in-Some-clause-shown : goal.returns-in_ok-add-in-Some-clause-shown
returns-in_ok-add-in-Some-clause-shown c = λ p.
    passage-left p c.args.task (drop (suc c.args.last.now) c.args.events.now) c.in-Some.exit (drop (suc c.exit_of.new.last) c.args.events.now)
    c.in-Some.ensures.reached.1 (action_by p (named_event p c.args.entry.now)) (shown_of p c.args.events.now c.args.script.now)
    (shown_of p c.args.events.now c.add.new.script) (shown_of p c.args.events.now c.add-in-Some.new.script)
    (c.in_ok-add.ensures p c.args.events.now c.requires.at)
    (c.in_ok-add-in-Some.ensures p c.args.events.now (c.in-Some.ensures.reached.0 ∙ c.in-Some.ensures.reached.1))
