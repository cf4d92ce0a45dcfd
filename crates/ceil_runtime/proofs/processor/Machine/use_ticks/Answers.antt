use Rattle.std.proofs.Common.{arith, None, set, Some, subst, ◌+◌}
use Rattle.ceil_runtime.specs.Processing.{IsWithin}
use Rattle.ceil_runtime.specs.Shown.{snapshot_of}
use Rattle.ceil_runtime.specs.Stepping.{Nothing, Steps}
use Rattle.ceil_runtime.specs.declared.processor.Phase.TheVariants.{Effects, Use}
use Rattle.ceil_runtime.proofs.Instants.{idle-step, use-step, using, using-small}
use Rattle.ceil_runtime.proofs.Phases.{in-phase, whole-phase}
use Rattle.ceil_runtime.proofs.processor.Machine.use_ticks.Goals as goal

pub returns-in_default : goal.returns-in_default
returns-in_default c =
    let s = snapshot_of c.args.self.now in
    let x = c.ticks_ahead-ticks.ensures in
    let n = c.ticks_ahead-ticks.result in
    let q' = c.pop_head.new.self in
    in-phase s Use c.requires.whole c.requires.phase c.requires.goes_on
    (λ y. Steps y Nothing (record y { time = s.time + n; phase = Effects None; ran = None; queues = q' }))
    (λ whole. idle-step s whole n x.some x.horizon x.wake x.arrival q' c.in_default.ensures.queues c.in_default.ensures.task)

pub index_mut-requires : goal.index_mut-requires
index_mut-requires c =
    let s = snapshot_of c.args.self.now in
    let x = c.ticks_ahead-ticks.ensures in
    let known = using s (whole-phase s Use c.requires.whole c.requires.phase c.requires.goes_on) c.ticks_ahead-ticks.result x.some x.horizon x.wake
    x.arrival c.pop_head.new.self c.in-Some.ensures.queues c.in-Some.task c.in-Some.ensures.task in
    omega (arith, known, c.args.self.now.tasks.ok)

pub use_ticks-requires-clause-small : goal.use_ticks-requires-clause-small
use_ticks-requires-clause-small c =
    let s = snapshot_of c.args.self.now in
    let x = c.ticks_ahead-ticks.ensures in
    using-small s (whole-phase s Use c.requires.whole c.requires.phase c.requires.goes_on) c.ticks_ahead-ticks.result x.some x.horizon x.wake
    x.arrival c.pop_head.new.self c.in-Some.ensures.queues c.in-Some.task c.in-Some.ensures.task _ c.index_mut.ensures.value

pub returns : goal.returns
returns c =
    let s = snapshot_of c.args.self.now in
    let x = c.ticks_ahead-ticks.ensures in
    let n = c.ticks_ahead-ticks.result in
    let i = c.in-Some.task in
    let q' = c.pop_head.new.self in
    let t' = c.use_ticks.new.self in
    in-phase s Use c.requires.whole c.requires.phase c.requires.goes_on (λ y. Steps y Nothing (record y {
      time = s.time + n;
      phase = Effects (Some i);
      ran = Some i;
      tasks = set s.tasks i t';
      queues = q';
    }))
    (λ whole. use-step s whole n x.some x.horizon x.wake x.arrival q' c.in-Some.ensures.queues i c.in-Some.ensures.task c.index_mut.result.now
    c.index_mut.ensures.value t' c.use_ticks.ensures.task c.use_ticks.ensures.thread c.use_ticks.ensures.ready
    c.use_ticks.ensures.progress
    (subst (λ ts. IsWithin ts s.queues.ready n) c.as_slice.ensures.value x.within))
