use Rattle.std.proofs.Common.{ap, ◌∙◌, set}
use Rattle.trace_tree.specs.declared.event.Event.TheVariants as event
use Rattle.link_queue.specs.Queues.{Queues, at_tail}
use Rattle.ceil_runtime.specs.Shown.{snapshot_of}
use Rattle.ceil_runtime.specs.Stepping.{Nothing, One, Steps}
use Rattle.ceil_runtime.specs.declared.processor.Phase.TheVariants.{Delays, Arriving}
use Rattle.ceil_runtime.proofs.Instants.{over-step, release-step, woken-at-work, woken-next, woken-rests, woken-works}
use Rattle.ceil_runtime.proofs.Phases.{in-phase, telling, whole-phase}
use Rattle.ceil_runtime.proofs.processor.Machine.delays.Goals as goal

pub returns-in_default : goal.returns-in_default
returns-in_default c =
    let s = snapshot_of c.args.self.now in
    let q' = c.wake_due.new.self in
    telling s _ Nothing _ (in-phase s Delays c.requires.whole c.requires.phase c.requires.goes_on
    (λ x. Steps x Nothing (record x { phase = Arriving; queues = q' }))
    (λ whole. over-step s whole q' c.in_default.ensures.task c.in_default.ensures.queues)) c.requires.empty

pub release-requires-clause-few : goal.release-requires-clause-few
release-requires-clause-few c =
    let s = snapshot_of c.args.self.now in
    woken-works s (whole-phase s Delays c.requires.whole c.requires.phase c.requires.goes_on) c.in-Some.task c.in-Some.ensures.task _
    c.index_mut-released.ensures.value

pub release-requires-clause-rests : goal.release-requires-clause-rests
release-requires-clause-rests c =
    let s = snapshot_of c.args.self.now in
    woken-rests s (whole-phase s Delays c.requires.whole c.requires.phase c.requires.goes_on) c.in-Some.task c.in-Some.ensures.task _
    c.index_mut-released.ensures.value

pub release-requires-clause-at_work : goal.release-requires-clause-at_work
release-requires-clause-at_work c =
    let s = snapshot_of c.args.self.now in
    woken-at-work s (whole-phase s Delays c.requires.whole c.requires.phase c.requires.goes_on) c.in-Some.task c.in-Some.ensures.task _
    c.index_mut-released.ensures.value

pub release-requires-clause-near : goal.release-requires-clause-near
release-requires-clause-near c =
    let s = snapshot_of c.args.self.now in
    woken-next s (whole-phase s Delays c.requires.whole c.requires.phase c.requires.goes_on) c.in-Some.task c.in-Some.ensures.task _
    c.index_mut-released.ensures.value

pub returns : goal.returns
returns c =
    let s = snapshot_of c.args.self.now in
    let i = c.in-Some.task in
    let t = c.index_mut-released.result.now in
    let t' = c.release.new.self in
    let q' = c.push_tail.new.self in
    let put : Queues → Queues = λ q. record q { ready = at_tail (i, t'.active) q.ready } in
    let one = One (event.Release s.time t'.progress.stack.thread.unit t.gate.value) in
    telling s _ one _ (in-phase s Delays c.requires.whole c.requires.phase c.requires.goes_on
    (λ x. Steps x one (record x { tasks = set s.tasks i t'; queues = q' }))
    (λ whole. release-step s whole i c.in-Some.ensures.task t c.index_mut-released.ensures.value t' c.release.ensures.task c.release.ensures.thread
    c.release.ensures.works c.release.ensures.near c.release.ensures.at_work q' (c.push_tail.ensures ∙ ap put c.in-Some.ensures.queues))) c.tell.ensures
