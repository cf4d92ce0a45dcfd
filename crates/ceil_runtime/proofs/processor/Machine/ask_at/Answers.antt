use Rattle.std.proofs.Common.{ap, arith, set}
use Rattle.trace_tree.specs.declared.event.Event.TheVariants as event
use Rattle.task_runtime.specs.Readies.{is_ready}
use Rattle.ceil_runtime.specs.Shown.{snapshot_of}
use Rattle.ceil_runtime.specs.Stepping.{before_arrival, One, Steps, Two}
use Rattle.ceil_runtime.specs.declared.processor.Phase.TheVariants.{Arriving}
use Rattle.ceil_runtime.proofs.Instants.{kept-step, reached, reached-at-work, reached-free, reached-next, reached-works, served-step}
use Rattle.ceil_runtime.proofs.Phases.{in-phase, telling, whole-phase}
use Rattle.ceil_runtime.proofs.processor.Machine.ask_at.Goals as goal

pub index_mut-asked-requires : goal.index_mut-asked-requires
index_mut-asked-requires c =
    let s = snapshot_of c.args.self.now in
    let known = reached s c.args.arrival s.arrivals (whole-phase (before_arrival c.args.arrival s) Arriving c.requires.whole c.requires.phase
    c.requires.goes_on) c.requires.now
    c.args.task c.requires.found in
    omega (arith, known, c.args.self.now.tasks.ok)

pub returns-in_default : goal.returns-in_default
returns-in_default c =
    let s = snapshot_of c.args.self.now in
    let a = c.args.arrival in
    let t' = c.arrive.new.self in
    telling (before_arrival a s) _ (One (event.Arrive s.time a.task a.value)) _ (in-phase (before_arrival a s) Arriving c.requires.whole
    c.requires.phase c.requires.goes_on
    (λ x. Steps x (One (event.Arrive s.time a.task a.value)) (record x { arrivals = s.arrivals; tasks = set s.tasks c.args.task t' }))
    (λ whole. kept-step s a s.arrivals whole c.requires.now c.args.task c.requires.found c.index_mut-asked.result.now c.index_mut-asked.ensures.value
    t' c.arrive.ensures.task c.arrive.ensures.thread c.arrive.ensures.same c.arrive.ensures.progress c.in_default.not-Waiting)) c.tell.ensures

pub release-requires-clause-rests : goal.release-requires-clause-rests
release-requires-clause-rests c = ap is_ready c.in-Waiting.is

pub release-requires-clause-near : goal.release-requires-clause-near
release-requires-clause-near c =
    let s = snapshot_of c.args.self.now in
    reached-next s c.args.arrival s.arrivals (whole-phase (before_arrival c.args.arrival s) Arriving c.requires.whole c.requires.phase
    c.requires.goes_on) c.requires.now c.args.task
    c.requires.found c.index_mut-asked.result.now c.index_mut-asked.ensures.value c.arrive.new.self c.arrive.ensures.task c.arrive.ensures.thread
    c.arrive.ensures.same

pub release-requires-clause-at_work : goal.release-requires-clause-at_work
release-requires-clause-at_work c =
    let s = snapshot_of c.args.self.now in
    reached-at-work s c.args.arrival s.arrivals (whole-phase (before_arrival c.args.arrival s) Arriving c.requires.whole c.requires.phase
    c.requires.goes_on) c.requires.now c.args.task c.requires.found c.index_mut-asked.result.now c.index_mut-asked.ensures.value c.arrive.new.self
    c.arrive.ensures.task c.arrive.ensures.thread c.arrive.ensures.same c.arrive.ensures.progress

pub release-requires-clause-few : goal.release-requires-clause-few
release-requires-clause-few c =
    let s = snapshot_of c.args.self.now in
    reached-works s c.args.arrival s.arrivals (whole-phase (before_arrival c.args.arrival s) Arriving c.requires.whole c.requires.phase
    c.requires.goes_on) c.requires.now c.args.task
    c.requires.found c.index_mut-asked.result.now c.index_mut-asked.ensures.value c.arrive.new.self c.arrive.ensures.task c.arrive.ensures.thread
    c.arrive.ensures.same

pub push_tail-requires : goal.push_tail-requires
push_tail-requires c =
    let s = snapshot_of c.args.self.now in
    reached-free s c.args.arrival s.arrivals (whole-phase (before_arrival c.args.arrival s) Arriving c.requires.whole c.requires.phase
    c.requires.goes_on) c.requires.now c.args.task
    c.requires.found c.index_mut-asked.result.now c.index_mut-asked.ensures.value c.arrive.new.self c.arrive.ensures.task c.arrive.ensures.thread
    c.arrive.ensures.same c.in-Waiting.is

pub returns : goal.returns
returns c =
    let s = snapshot_of c.args.self.now in
    let a = c.args.arrival in
    let i = c.args.task in
    let t' = c.arrive.new.self in
    let t'' = c.release.new.self in
    let q' = c.push_tail.new.self in
    let both = Two (event.Arrive s.time a.task a.value) (event.Release s.time t''.progress.stack.thread.unit a.value) in
    telling (before_arrival a s) _ both _ (in-phase (before_arrival a s) Arriving c.requires.whole c.requires.phase c.requires.goes_on
    (λ x. Steps x both
    (record x { arrivals = s.arrivals; tasks = set s.tasks i t''; queues = q' }))
    (λ whole. served-step s a s.arrivals whole c.requires.now i c.requires.found c.index_mut-asked.result.now c.index_mut-asked.ensures.value t'
    c.arrive.ensures.task c.arrive.ensures.thread c.arrive.ensures.same c.in-Waiting.is t'' c.release.ensures.task c.release.ensures.thread
    c.release.ensures.works c.arrive.ensures.progress c.release.ensures.at_work q' c.push_tail.ensures)) c.tell_both.ensures
