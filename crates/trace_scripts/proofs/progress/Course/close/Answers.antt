use Rattle.std.proofs.Common.{rules, sym, ◌∙◌}
use Rattle.trace_scripts.specs.Scenes.{program_in, software_of}
use Rattle.trace_scripts.specs.Threads.{course_of}
use Rattle.trace_scripts.proofs.Coursing.{answered-so, astray-none, begun-none, closing, ran-none}
use Rattle.trace_scripts.proofs.progress.Course.close.Goals as goal

pub returns-in-Ran : goal.returns-in-Ran
returns-in-Ran c = λ depth t is may.
    closing (software_of c.args.scene.now) depth t c.args.thread is (course_of (program_in c.args.scene.now) c.args.events.now c.args.self.now) c.args.kept_now.slots.items c.in_ok-env.env.slots.items
    c.in-Some.at c.in-Some.used c.in_ok-env.ensures (search rules) _
    (ran-none (software_of c.args.scene.now) t (course_of (program_in c.args.scene.now) c.args.events.now c.args.self.now) c.in-Some.at c.in-Some.used _ _ _ c.in-Ran.low c.in-Ran.high (answered-so _ _ _ _ _ (c.in_ok-low.ensures depth may) c.in-Ran.is)
    (sym c.in_ok-is_charged-in-Ran.ensures ∙ c.if-branch.false))

pub returns-in-Begun : goal.returns-in-Begun
returns-in-Begun c = λ depth t is may.
    closing (software_of c.args.scene.now) depth t c.args.thread is (course_of (program_in c.args.scene.now) c.args.events.now c.args.self.now) c.args.kept_now.slots.items c.in_ok-env.env.slots.items
    c.in-Some.at c.in-Some.used c.in_ok-env.ensures (search rules) _
    (begun-none (software_of c.args.scene.now) t (course_of (program_in c.args.scene.now) c.args.events.now c.args.self.now) c.in-Some.at c.in-Some.used _ _ _ (answered-so _ _ _ _ _ (c.in_ok-low.ensures depth may) c.in-Begun.is))

pub returns : goal.returns
returns c = λ depth t is may.
    closing (software_of c.args.scene.now) depth t c.args.thread is (course_of (program_in c.args.scene.now) c.args.events.now c.args.self.now) c.args.kept_now.slots.items c.in_ok-env.env.slots.items
    c.in-Some.at c.in-Some.used c.in_ok-env.ensures (search rules) _
    (astray-none (software_of c.args.scene.now) t (course_of (program_in c.args.scene.now) c.args.events.now c.args.self.now) c.in-Some.at c.in-Some.used _ _ _ (answered-so _ _ _ _ _ (c.in_ok-low.ensures depth may) c.in-Astray.is))
