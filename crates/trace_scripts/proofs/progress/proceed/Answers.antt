use Rattle.std.proofs.Common.{rules, ◌∙◌}
use Rattle.guarantee.specs.Events.{named_event}
use Rattle.trace_scripts.specs.Objects.{charge_of}
use Rattle.trace_scripts.specs.Scenes.{program_in}
use Rattle.trace_scripts.specs.Threads.{course_of}
use Rattle.trace_scripts.proofs.Going.{comes-again}
use Rattle.trace_scripts.proofs.progress.proceed.Goals as goal

pub returns-in-Some : goal.returns-in-Some
returns-in-Some c = λ depth t is may.
    c.again.ensures (program_in c.args.scene.now) c.args.events.now
    ∙ comes-again (program_in c.args.scene.now) depth t c.args.good (charge_of c.args.charge) c.args.kept_now.slots.items
    (named_event (program_in c.args.scene.now) c.args.event.now) (course_of (program_in c.args.scene.now) c.args.events.now c.args.course) c.in-Some.time c.in-Some.value _ (search rules)
    (search rules) (c.in_ok-left.ensures depth t is may)
