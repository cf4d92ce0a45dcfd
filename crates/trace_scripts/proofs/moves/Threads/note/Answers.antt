use Rattle.std.proofs.Common.{ap, ◌∙◌}
use Rattle.trace_scripts.specs.Moving.{threads_of}
use Rattle.trace_scripts.specs.Objects.{charge_of}
use Rattle.trace_scripts.specs.Scenes.{program_in}
use Rattle.trace_scripts.proofs.MoveSteps.{stepped-with}
use Rattle.trace_scripts.proofs.moves.Threads.note.Goals as goal
use Rattle.trace_read.specs.Deeds.{task_of}

pub returns-in_ok-step-in-Release-clause-states : goal.returns-in_ok-step-in-Release-clause-states
returns-in_ok-step-in-Release-clause-states c = λ depth may.
    c.in_ok-step-in-Release.ensures.states depth may
    ∙ stepped-with (program_in c.args.scene.now) depth c.args.good (charge_of c.args.charge) (threads_of (program_in c.args.scene.now) c.args.events.now c.args.self.now) c.args.event.now
    c.in-Release.task (ap task_of c.in-Release.is)

pub returns-in_ok-step-in-Enter-clause-states : goal.returns-in_ok-step-in-Enter-clause-states
returns-in_ok-step-in-Enter-clause-states c = λ depth may.
    c.in_ok-step-in-Enter.ensures.states depth may
    ∙ stepped-with (program_in c.args.scene.now) depth c.args.good (charge_of c.args.charge) (threads_of (program_in c.args.scene.now) c.args.events.now c.args.self.now) c.args.event.now
    c.in-Enter.task (ap task_of c.in-Enter.is)

pub returns-in_ok-step-in-Leave-clause-states : goal.returns-in_ok-step-in-Leave-clause-states
returns-in_ok-step-in-Leave-clause-states c = λ depth may.
    c.in_ok-step-in-Leave.ensures.states depth may
    ∙ stepped-with (program_in c.args.scene.now) depth c.args.good (charge_of c.args.charge) (threads_of (program_in c.args.scene.now) c.args.events.now c.args.self.now) c.args.event.now
    c.in-Leave.task (ap task_of c.in-Leave.is)

pub returns-in_ok-step-in-Request-clause-states : goal.returns-in_ok-step-in-Request-clause-states
returns-in_ok-step-in-Request-clause-states c = λ depth may.
    c.in_ok-step-in-Request.ensures.states depth may
    ∙ stepped-with (program_in c.args.scene.now) depth c.args.good (charge_of c.args.charge) (threads_of (program_in c.args.scene.now) c.args.events.now c.args.self.now) c.args.event.now
    c.in-Request.task (ap task_of c.in-Request.is)

pub returns-in_ok-step-in-Print-clause-states : goal.returns-in_ok-step-in-Print-clause-states
returns-in_ok-step-in-Print-clause-states c = λ depth may.
    c.in_ok-step-in-Print.ensures.states depth may
    ∙ stepped-with (program_in c.args.scene.now) depth c.args.good (charge_of c.args.charge) (threads_of (program_in c.args.scene.now) c.args.events.now c.args.self.now) c.args.event.now
    c.in-Print.task (ap task_of c.in-Print.is)

pub returns-in_ok-step-in-End-clause-states : goal.returns-in_ok-step-in-End-clause-states
returns-in_ok-step-in-End-clause-states c = λ depth may.
    c.in_ok-step-in-End.ensures.states depth may
    ∙ stepped-with (program_in c.args.scene.now) depth c.args.good (charge_of c.args.charge) (threads_of (program_in c.args.scene.now) c.args.events.now c.args.self.now) c.args.event.now
    c.in-End.task (ap task_of c.in-End.is)

pub returns-in_ok-step-in-Stop-clause-states : goal.returns-in_ok-step-in-Stop-clause-states
returns-in_ok-step-in-Stop-clause-states c = λ depth may.
    c.in_ok-step-in-Stop.ensures.states depth may
    ∙ stepped-with (program_in c.args.scene.now) depth c.args.good (charge_of c.args.charge) (threads_of (program_in c.args.scene.now) c.args.events.now c.args.self.now) c.args.event.now
    c.in-Stop.task (ap task_of c.in-Stop.is)
