use Rattle.std.proofs.Common.{ap, drop, suc, sym, ◌∙◌}
use Rattle.trace_read.specs.declared.deeds.Part.TheVariants.{Closes, Opens, Plain}
use Rattle.trace_scripts.specs.Insides.{inside_from, joined}
use Rattle.trace_scripts.specs.Scripts.{shown_of}
use Rattle.trace_scripts.proofs.Looking.{back-none, by-part}
use Rattle.trace_scripts.proofs.insides.take.Goals as goal

pub returns-in_ok-add-in-Plain-clause-shown : goal.returns-in_ok-add-in-Plain-clause-shown
returns-in_ok-add-in-Plain-clause-shown c = λ p.
    c.in_ok-add-in-Plain.ensures p c.args.events.now c.requires.at
    (inside_from p c.args.task (drop (suc c.args.last.now) c.args.events.now) 0)
    ∙ ap (joined (shown_of p c.args.events.now c.args.script.now))
    (by-part p c.args.task (drop c.args.last.now c.args.events.now) (drop (suc c.args.last.now) c.args.events.now) c.args.event.now c.requires.at
    Plain c.in-Plain.ensures)

pub returns-in_ok-more-in-Opens-clause-shown : goal.returns-in_ok-more-in-Opens-clause-shown
returns-in_ok-more-in-Opens-clause-shown c = λ p.
    c.in_ok-more-in-Opens.ensures.shown p
    ∙ ap (joined (shown_of p c.args.events.now c.args.script.now))
    (by-part p c.args.task (drop c.args.last.now c.args.events.now) (drop (suc c.args.last.now) c.args.events.now) c.args.event.now c.requires.at
    Opens c.in-Opens.ensures)

pub returns-in-Closes-clause-shown : goal.returns-in-Closes-clause-shown
returns-in-Closes-clause-shown c = λ p.
    sym (back-none (shown_of p c.args.events.now c.args.script.now))
    ∙ ap (joined (shown_of p c.args.events.now c.args.script.now))
    (by-part p c.args.task (drop c.args.last.now c.args.events.now) (drop (suc c.args.last.now) c.args.events.now) c.args.event.now c.requires.at
    Closes c.in-Closes.ensures)
