use Rattle.std.proofs.Common.{ap, drop, rules, suc, sym, ◌∙◌}
use Rattle.trace_scripts.specs.Insides.{joined}
use Rattle.trace_scripts.specs.Scripts.{shown_of}
use Rattle.trace_scripts.proofs.Looking.{back-none, more-behind, next-reached, none-behind, none-reached}
use Rattle.trace_scripts.proofs.insides.script_inside.Goals as goal

pub returns-then-not-branch : goal.returns-then-not-branch
returns-then-not-branch c = λ p.
    none-behind c.in_ok-take.field-0 _ _ _ (search rules) (c.in_ok-take.ensures.shown p)
    ∙ ap (joined (shown_of p c.args.events.now c.deeds.script))
    (next-reached p c.args.task c.args.events.now c.deeds.last c.next_of.new.last c.in-Some.event c.in-Some.ensures.reached)
    ∙ c.deeds.invariant.shown p

pub deeds-preserved : goal.deeds-preserved
deeds-preserved c = record {
  own = c.take.ensures.own;
  shown = λ p. more-behind c.in_ok-take.field-0 _ _ _ (search rules) (c.in_ok-take.ensures.shown p)
      ∙ ap (joined (shown_of p c.args.events.now c.deeds.script))
      (next-reached p c.args.task c.args.events.now c.deeds.last c.next_of.new.last c.in-Some.event c.in-Some.ensures.reached)
      ∙ c.deeds.invariant.shown p;
}

pub returns : goal.returns
returns c = λ p.
    sym (back-none (shown_of p c.args.events.now c.deeds.script))
    ∙ ap (joined (shown_of p c.args.events.now c.deeds.script))
    (sym (none-reached p c.args.task (drop (suc c.deeds.last) c.args.events.now) (search rules))) ∙ c.deeds.invariant.shown p
