use Rattle.std.proofs.Common.{rules}
use Rattle.trace_scripts.specs.Scenes.{program_in, software_of}
use Rattle.trace_scripts.specs.Threads.{course_of}
use Rattle.trace_scripts.proofs.Coursing.{ends-some}
use Rattle.trace_scripts.proofs.progress.Course.ends.Goals as goal

pub returns-then-is_some : goal.returns-then-is_some
returns-then-is_some c = λ depth t is may. search (
  rules,
  ends-some (software_of c.args.scene.now) depth t (course_of (program_in c.args.scene.now) c.args.events.now c.args.self.now)
      c.args.kept_now.slots.items c.in_ok-left.left (c.in_ok-left.ensures depth t is may),
)
