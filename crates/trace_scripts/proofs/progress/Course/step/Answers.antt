use Rattle.std.proofs.Common.{ap, false, refl, true}
use Rattle.guarantee.specs.Events.{Arrive, Enter, Leave, Print, Release, Request, Stop, named_event, op_at}
use Rattle.trace_tree.specs.Lines.{unit_name}
use Rattle.trace_scripts.specs.Objects.{charge_of}
use Rattle.trace_scripts.specs.Threads.{course_of}
use Rattle.trace_scripts.proofs.Coursing.{enter-step, leave-step, plain-step}
use Rattle.trace_scripts.proofs.progress.Course.step.Goals as goal

pub returns-in_ok-enter-in-Enter : goal.returns-in_ok-enter-in-Enter
returns-in_ok-enter-in-Enter c = λ p es at.
    enter-step p es c.args.here c.args.event.now at c.args.good (charge_of c.args.charge) (course_of p es c.args.self.now)
    (course_of p es c.enter.new.self) c.in-Enter.time (unit_name p c.in-Enter.task) (op_at p c.in-Enter.unit c.in-Enter.op) c.in-Enter.values (ap (named_event p) c.in-Enter.is)
    (c.in_ok-enter-in-Enter.ensures p es)

pub returns-in_ok-leave-in-Leave : goal.returns-in_ok-leave-in-Leave
returns-in_ok-leave-in-Leave c = λ p es at.
    leave-step p es c.args.here c.args.event.now at c.args.good (charge_of c.args.charge) (course_of p es c.args.self.now)
    (course_of p es c.leave.new.self) c.in-Leave.time (unit_name p c.in-Leave.task) (op_at p c.in-Leave.unit c.in-Leave.op) c.in-Leave.values (ap (named_event p) c.in-Leave.is)
    (c.in_ok-leave-in-Leave.ensures p es)

pub returns-in_ok-see-in-Release : goal.returns-in_ok-see-in-Release
returns-in_ok-see-in-Release c = λ p es at.
    plain-step p es c.args.here c.args.event.now at c.args.good (charge_of c.args.charge) (course_of p es c.args.self.now)
    (course_of p es c.see.new.self) c.in-Release.time (unit_name p c.in-Release.task) (Release c.in-Release.value) (ap (named_event p) c.in-Release.is) refl false refl
    (c.in_ok-see-in-Release.ensures p es)

pub returns-in_ok-see-in-Arrive : goal.returns-in_ok-see-in-Arrive
returns-in_ok-see-in-Arrive c = λ p es at.
    plain-step p es c.args.here c.args.event.now at c.args.good (charge_of c.args.charge) (course_of p es c.args.self.now)
    (course_of p es c.see-in-Arrive.new.self) c.in-Arrive.time (unit_name p c.in-Arrive.task) (Arrive c.in-Arrive.value) (ap (named_event p) c.in-Arrive.is) refl false refl
    (c.in_ok-see-in-Arrive.ensures p es)

pub returns-in_ok-see-in-Request : goal.returns-in_ok-see-in-Request
returns-in_ok-see-in-Request c = λ p es at.
    plain-step p es c.args.here c.args.event.now at c.args.good (charge_of c.args.charge) (course_of p es c.args.self.now)
    (course_of p es c.see-in-Request.new.self) c.in-Request.time (unit_name p c.in-Request.task) (Request (unit_name p c.in-Request.target) c.in-Request.value) (ap (named_event p) c.in-Request.is) refl true refl
    (c.in_ok-see-in-Request.ensures p es)

pub returns-in_ok-see-in-Print : goal.returns-in_ok-see-in-Print
returns-in_ok-see-in-Print c = λ p es at.
    plain-step p es c.args.here c.args.event.now at c.args.good (charge_of c.args.charge) (course_of p es c.args.self.now)
    (course_of p es c.see-in-Print.new.self) c.in-Print.time (unit_name p c.in-Print.task) (Print c.in-Print.value) (ap (named_event p) c.in-Print.is) refl true refl
    (c.in_ok-see-in-Print.ensures p es)

pub returns-in_ok-see-in-Stop : goal.returns-in_ok-see-in-Stop
returns-in_ok-see-in-Stop c = λ p es at.
    plain-step p es c.args.here c.args.event.now at c.args.good (charge_of c.args.charge) (course_of p es c.args.self.now)
    (course_of p es c.see-in-Stop.new.self) c.in-Stop.time (unit_name p c.in-Stop.task) (Stop (unit_name p c.in-Stop.unit) c.in-Stop.priority c.in-Stop.ceiling) (ap (named_event p) c.in-Stop.is) refl false refl
    (c.in_ok-see-in-Stop.ensures p es)
