-- A task whose first piece concerns itself alone: it goes on where the step of its body says.
use Rattle.std.proofs.Common.{◌≡◌, ℕ, Bool, true, ap, sym, ◌∙◌}
use Rattle.machine.specs.Deeds as deeds
use Rattle.machine.specs.Deeds.{deed, done}
use Rattle.linker.specs.declared.program.LinkedUnits.{LinkedUnits}
use Rattle.task_runtime.specs.Bodies.{left_at, vars_here}
use Rattle.task_runtime.specs.Goings.{Goes, GoesOnAt}
use Rattle.task_runtime.specs.Lefts.{pieces_left, running_of, vars_left}
use Rattle.task_runtime.specs.declared.progress.Progress.{Progress}
use Rattle.task_runtime.specs.declared.stack.Stack.{Stack}
use Rattle.task_runtime.proofs.Steps.{Steps}

-- a step of the body that runs, and a task that goes on where it leads to, with its slots
pub goes_by : (c : LinkedUnits) (p p' : Progress) (s' : Stack) (open' : Bool) (at : ℕ) (act : deeds.Act)
    → pieces_left p ≡ left_at (running_of p.stack) open' p.at p.stack.slots.here
    → vars_left p ≡ vars_here (running_of p.stack) open' p.at p.stack.slots.here
    → s'.thread ≡ p.stack.thread → s'.frames.room ≡ p.stack.frames.room → running_of s' ≡ running_of p.stack
    → Steps (running_of p.stack) open' p.at p.stack.slots.here act true at s'.slots.here → GoesOnAt c s' at p' → Goes c p act p'
goes_by c p p' s' open' at act left vars thread room same step on = record {
  at_work = on.at_work;
  thread = ap (λ s. s.thread) on.stack ∙ thread;
  room = ap (λ s. s.frames.room) on.stack ∙ room;
  does = record {
    piece = step.piece;
    rest = step.rest;
    first = left ∙ step.first;
    does = λ y alike.
        ap (λ vs. done y step.piece vs step.rest) vars ∙ step.does y
        ∙ ap (λ vs. deed act vs (left_at (running_of p.stack) true at s'.slots.here))
        (ap (λ r. vars_here r true at s'.slots.here) (sym same) ∙ sym on.vars)
        ∙ ap (λ ps. deed act (vars_left p') ps) (ap (λ r. left_at r true at s'.slots.here) (sym same) ∙ sym on.pieces);
  };
}
