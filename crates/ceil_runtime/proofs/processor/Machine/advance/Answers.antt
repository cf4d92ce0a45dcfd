use Rattle.std.proofs.Common.{◌≡◌, ap, length, sym, [], ◌∙◌}
use Rattle.ceil_runtime.specs.Left.{left}
use Rattle.ceil_runtime.specs.Shown.{running_of, snapshot_of}
use Rattle.ceil_runtime.proofs.Advancing.{follows-none, follows-then, less-left, no-events, same-left, told-nothing}
use Rattle.ceil_runtime.proofs.Placed.{of-units, told-placed}
use Rattle.ceil_runtime.proofs.processor.Machine.advance.Goals as goal

pub steps-init : goal.steps-init
steps-init c = record {
  running = c.requires.goes_on;
  whole = c.requires.whole;
  empty = c.requires.empty;
  within = same-left (left (running_of c.args.self.now));
  follows = follows-none (running_of c.args.self.now);
}

pub step-requires-clause-whole : goal.step-requires-clause-whole
step-requires-clause-whole c = c.steps.invariant.whole

pub step-requires-clause-goes_on : goal.step-requires-clause-goes_on
step-requires-clause-goes_on c = c.steps.invariant.running

pub step-requires-clause-empty : goal.step-requires-clause-empty
step-requires-clause-empty c = c.steps.invariant.empty

pub steps-preserved : goal.steps-preserved
steps-preserved c =
    let e = c.step.ensures in
    let s = snapshot_of c.steps.self in
    let s' = snapshot_of c.step.new.self in
    let none : c.step.new.events ≡ [] = no-events c.step.new.events (ap length (sym c.events.ensures) ∙ c.in_default.ensures.cases) in
    let silent = told-nothing e.0 s s' (sym none ∙ e.1) e.2 in
    let on = silent.ends in
    record {
      running = on;
      whole = silent.whole on;
      empty = none;
      within = less-left (left (running_of c.step.new.self)) _ _ (silent.falls on) c.steps.invariant.within;
      follows = follows-then _ _ (running_of c.step.new.self) [] c.steps.invariant.follows silent.follows;
    }

pub returns-then-self-clause-placed : goal.returns-then-self-clause-placed
returns-then-self-clause-placed c = λ p a runs.
    let e = c.step.ensures in
    told-placed p a c.steps.self.tasks.items e.0 c.step.new.events e.1
    (of-units p c.steps.self.tasks.items c.steps.self.units.now c.steps.self.until c.steps.self.time c.steps.invariant.whole.sound.kept
    (ap (λ y. y.objects) (c.steps.invariant.follows.system ∙ runs)))
    (ap (λ y. y.threads) (sym (c.steps.invariant.follows.system ∙ runs))) e.2.of

pub returns-else-self-clause-placed : goal.returns-else-self-clause-placed
returns-else-self-clause-placed c = λ p a runs.
    let e = c.step.ensures in
    told-placed p a c.steps.self.tasks.items e.0 c.step.new.events e.1
    (of-units p c.steps.self.tasks.items c.steps.self.units.now c.steps.self.until c.steps.self.time c.steps.invariant.whole.sound.kept
    (ap (λ y. y.objects) (c.steps.invariant.follows.system ∙ runs)))
    (ap (λ y. y.threads) (sym (c.steps.invariant.follows.system ∙ runs))) e.2.of
