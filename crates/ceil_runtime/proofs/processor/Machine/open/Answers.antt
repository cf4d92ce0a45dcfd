use Rattle.std.proofs.Common.{◌≡◌, ℕ, ◌<◌, ◌+◌, sym, ap, subst, ◌∙◌, refl, arith, length, List, [], ◌∷◌, ◌++◌, take}
use Rattle.std.proofs.lemmas.List.{take_all, take_more, length_push}
use Rattle.std.proofs.lemmas.Option.{slice_get_read}
use Rattle.std.specs.Prelude.{None, false, map, slice_get}
use Rattle.seq_tree.specs.Variables.{Variables}
use Rattle.ada_tree.specs.Trees.{unit_of}
use Rattle.machine.specs.Meanings.{Running}
use Rattle.ceil_runtime.specs.Processing.{state_by, system_by}
use Rattle.ceil_runtime.specs.declared.processor.Phase.TheVariants.{Effects}
use Rattle.ceil_runtime.proofs.ObjectsFound.{found-stores}
use Rattle.link_queue.specs.Queues.{IsFree}
use Rattle.ceil_runtime.specs.Reaching.{IsReached}
use Rattle.ceil_runtime.specs.Starts.{AreOpen, first_slept, opened, system_for}
use Rattle.law_ceilings.specs.Premises.{MayExclude}
use Rattle.task_runtime.specs.declared.thread.Thread.{Thread}
use Rattle.task_runtime.specs.declared.task.Task.{Task}
use Rattle.ceil_runtime.proofs.Linked.{linked-here, start-at, start-known}
use Rattle.ceil_runtime.proofs.ObjectsKept.{opened-objects}
use Rattle.ceil_runtime.proofs.Started.{open-alike, open-free, open-next, open-none, open-reached, open-running, open-sound, slept-size}
use Rattle.ceil_runtime.proofs.processor.Machine.open.Goals as goal
use Rattle.machine.specs.Systems.{objects_from}

pub threads-init : goal.threads-init
threads-init c =
    let none = c.in_ok-tasks.ensures.items in
    let empty = c.in-Ok.ensures in
    record {
      opened = subst (λ (ts : List Task). AreOpen c.args.until c.args.units.now c.in_ok-code.code [] ts c.in-Ok.links) (sym none) (open-none
          c.args.until
          c.args.units.now c.in_ok-code.code c.in-Ok.links (ap (λ q. q.ready) empty) (ap (λ q. q.asleep) empty));
      size = ap (λ q. q.size) empty;
      place = sym (ap length none);
      count = ap length none;
      room = c.in_ok-tasks.ensures.capacity;
    }

pub new-requires-in-threads-clause-works : goal.new-requires-in-threads-clause-works
new-requires-in-threads-clause-works c =
    (c.requires.start c.threads.thread-index c.thread-item.result
    (slice_get_read c.args.threads.now (length c.args.threads.now) c.threads.thread-index c.thread-item.result refl c.threads-test.true
    c.thread-item.is)).works

pub index-start-requires : goal.index-start-requires
index-start-requires c =
    let i = c.threads.invariant in
    let at = slice_get_read c.args.threads.now (length c.args.threads.now) c.threads.thread-index c.thread-item.result refl c.threads-test.true
    c.thread-item.is in
    let known = start-known c.args.units.now c.args.threads.now c.in_ok-code.code c.in_ok-code.ensures c.requires.alike c.requires.start
    c.threads.thread-index c.thread-item.result at in
    omega (arith, known, i.place, i.count, c.in_ok-code.code.tasks.ok.0)

pub new-requires-in-threads-clause-linked : goal.new-requires-in-threads-clause-linked
new-requires-in-threads-clause-linked c =
    let at = slice_get_read c.args.threads.now (length c.args.threads.now) c.threads.thread-index c.thread-item.result refl c.threads-test.true
    c.thread-item.is in
    linked-here c.args.units.now c.args.threads.now c.in_ok-code.code c.in_ok-code.ensures c.requires.alike c.requires.start c.threads.thread-index
    c.thread-item.result at

pub new-requires-in-threads-clause-start : goal.new-requires-in-threads-clause-start
new-requires-in-threads-clause-start c =
    let i = c.threads.invariant in
    let items = c.in_ok-code.code.tasks.items in
    let at = slice_get_read c.args.threads.now (length c.args.threads.now) c.threads.thread-index c.thread-item.result refl c.threads-test.true
    c.thread-item.is in
    let known = start-known c.args.units.now c.args.threads.now c.in_ok-code.code c.in_ok-code.ensures c.requires.alike c.requires.start
    c.threads.thread-index c.thread-item.result at in
    let place = i.place ∙ i.count in
    start-at c.args.units.now c.args.threads.now c.in_ok-code.code c.in_ok-code.ensures c.requires.alike c.requires.start c.threads.thread-index
    c.thread-item.result at c.index-start.result.now
    (ap (slice_get items) (sym place) ∙ slice_get_read items (length items) c.threads.task c.index-start.result.now refl (omega (arith, known, place))
    c.index-start.ensures)

pub task_room-room-requires-clause-works : goal.task_room-room-requires-clause-works
task_room-room-requires-clause-works c =
    (c.requires.start c.threads.thread-index c.thread-item.result
    (slice_get_read c.args.threads.now (length c.args.threads.now) c.threads.thread-index c.thread-item.result refl c.threads-test.true
    c.thread-item.is)).works

pub task_room-room-requires-clause-linked : goal.task_room-room-requires-clause-linked
task_room-room-requires-clause-linked c =
    let at = slice_get_read c.args.threads.now (length c.args.threads.now) c.threads.thread-index c.thread-item.result refl c.threads-test.true
    c.thread-item.is in
    linked-here c.args.units.now c.args.threads.now c.in_ok-code.code c.in_ok-code.ensures c.requires.alike c.requires.start c.threads.thread-index
    c.thread-item.result at

pub task_room-room-requires-clause-start : goal.task_room-room-requires-clause-start
task_room-room-requires-clause-start c =
    let i = c.threads.invariant in
    let items = c.in_ok-code.code.tasks.items in
    let at = slice_get_read c.args.threads.now (length c.args.threads.now) c.threads.thread-index c.thread-item.result refl c.threads-test.true
    c.thread-item.is in
    let known = start-known c.args.units.now c.args.threads.now c.in_ok-code.code c.in_ok-code.ensures c.requires.alike c.requires.start
    c.threads.thread-index c.thread-item.result at in
    let place = i.place ∙ i.count in
    start-at c.args.units.now c.args.threads.now c.in_ok-code.code c.in_ok-code.ensures c.requires.alike c.requires.start c.threads.thread-index
    c.thread-item.result at c.index-start.result.now
    (ap (slice_get items) (sym place) ∙ slice_get_read items (length items) c.threads.task c.index-start.result.now refl (omega (arith, known, place))
    c.index-start.ensures)

pub new-requires-in-threads-clause-long : goal.new-requires-in-threads-clause-long
new-requires-in-threads-clause-long c =
    (c.requires.start c.threads.thread-index c.thread-item.result
    (slice_get_read c.args.threads.now (length c.args.threads.now) c.threads.thread-index c.thread-item.result refl c.threads-test.true
    c.thread-item.is)).long

pub sleep_first-requires : goal.sleep_first-requires
sleep_first-requires c =
    let i = c.threads.invariant in
    let known : length c.threads.tasks.items < c.threads.links.size = omega (arith, i.count, i.size, c.threads-test.true) in
    subst (λ (n : ℕ). IsFree c.threads.links n) (sym i.place) (open-free c.args.until c.args.units.now c.in_ok-code.code
    (take c.threads.thread-index c.args.threads.now) c.threads.tasks.items c.threads.links i.opened known)

pub threads-preserved : goal.threads-preserved
threads-preserved c =
    let th = c.thread-item.result in
    let i = c.threads.invariant in
    let start = c.requires.start c.threads.thread-index th (slice_get_read c.args.threads.now (length c.args.threads.now) c.threads.thread-index th
    refl c.threads-test.true c.thread-item.is) in
    let taken = take_more c.args.threads.now c.threads.thread-index th c.threads-test.true ∙ ap
    (λ h. take c.threads.thread-index c.args.threads.now ++ h ∷ []) (sym c.thread-item.is) in
    let is : c.sleep_first.new.links ≡ first_slept th.timing (length c.threads.tasks.items) c.threads.links
    = c.sleep_first.ensures ∙ ap (λ n. first_slept th.timing n c.threads.links) i.place in
    let longer = ap length c.push_reserved.ensures.items ∙ length_push c.threads.tasks.items _ in
    record {
      opened = subst (λ (ths : List Thread). AreOpen c.args.until c.args.units.now c.in_ok-code.code ths c.push_reserved.new.self.items
          c.sleep_first.new.links)
          (sym taken)
          (subst (λ (ts : List Task). AreOpen c.args.until c.args.units.now c.in_ok-code.code (take c.threads.thread-index c.args.threads.now ++ th ∷
          []) ts
          c.sleep_first.new.links) (sym c.push_reserved.ensures.items)
          (open-next c.args.until c.args.units.now c.in_ok-code.code (take c.threads.thread-index c.args.threads.now) c.threads.tasks.items
          c.threads.links
          i.opened _ th
          c.in_ok-fresh.ensures.fresh c.in_ok-fresh.ensures.at_work
          start c.sleep_first.new.links is));
      size = ap (λ q. q.size) is ∙ slept-size th.timing (length c.threads.tasks.items) c.threads.links ∙ i.size;
      place = ap (λ n. n + 1) i.place ∙ sym longer;
      count = longer ∙ ap (λ n. n + 1) i.count;
      room = omega (arith, i.room, c.push_reserved.ensures.capacity);
    }

pub invariant_of-result-clause-known : goal.invariant_of-result-clause-known
invariant_of-result-clause-known c = opened-objects c.args.units.now c.in_ok-objects.objects.items c.in_ok-objects.ensures

pub returns-clause-whole : goal.returns-clause-whole
returns-clause-whole c =
    let i = c.threads.invariant in
    let us = c.args.units.now in
    let ts = c.threads.tasks.items in
    let all = take_all c.threads.thread-index c.args.threads.now (omega (arith, c.threads-test.false)) in
    record {
      sound =
          open-sound c.args.until c.args.costs c.args.units.now c.in_ok-code.code (take c.threads.thread-index c.args.threads.now)
          c.threads.tasks.items c.threads.links
          i.opened c.requires.near (omega (arith, i.count, c.requires.few, c.threads-test.false, c.threads.auto.thread-index-end))
          (omega (arith, i.size, i.count, c.threads-test.false, c.threads.auto.thread-index-end))
          (open-alike c.args.units.now c.args.threads.now c.threads.tasks.items
          (i.opened.threads_are ∙ take_all c.threads.thread-index c.args.threads.now (omega (arith, c.threads-test.false))) c.requires.alike);
      at_work = i.opened.at_work;
      reached =
          subst (λ (σ : List Variables). IsReached (system_by c.args.until c.args.costs us ts)
          (state_by σ c.args.arrivals.now 0 (Effects None) None false ts c.threads.links.ready))
          (sym (found-stores c.in_ok-objects.objects.items (objects_from 0 (map unit_of us)) c.in_ok-objects.ensures))
          (open-reached c.args.until c.args.costs us c.in_ok-code.code (take c.threads.thread-index c.args.threads.now) ts c.threads.links i.opened
          c.requires.near
          (omega (arith, i.count, c.requires.few, c.threads-test.false, c.threads.auto.thread-index-end))
          (omega (arith, i.size, i.count, c.threads-test.false, c.threads.auto.thread-index-end))
          (open-alike us c.args.threads.now ts (i.opened.threads_are ∙ all) c.requires.alike) c.args.arrivals.now
          (subst (λ (ths : List Thread). MayExclude (system_for c.args.until c.args.costs us ths) c.args.arrivals.now) (sym all)
          c.requires.excludes));
    }

pub returns-clause-opens : goal.returns-clause-opens
returns-clause-opens c =
    let i = c.threads.invariant in
    let us = c.args.units.now in
    let ts = c.threads.tasks.items in
    let stores = found-stores c.in_ok-objects.objects.items (objects_from 0 (map unit_of us)) c.in_ok-objects.ensures in
    let view : List Variables → Running = λ kept.
    record {
      system = system_by c.args.until c.args.costs us ts;
      state = state_by kept c.args.arrivals.now 0 (Effects None) None false ts c.threads.links.ready;
    } in
    ap view stores
    ∙ open-running c.args.until c.args.costs us c.in_ok-code.code (take c.threads.thread-index c.args.threads.now) ts c.threads.links i.opened
    c.requires.near
    (omega (arith, i.count, c.requires.few, c.threads-test.false, c.threads.auto.thread-index-end))
    (omega (arith, i.size, i.count, c.threads-test.false, c.threads.auto.thread-index-end))
    (open-alike c.args.units.now c.args.threads.now ts (i.opened.threads_are ∙ take_all c.threads.thread-index c.args.threads.now
    (omega (arith, c.threads-test.false))) c.requires.alike) c.args.arrivals.now
    ∙ ap (opened c.args.until c.args.costs us c.args.arrivals.now)
    (take_all c.threads.thread-index c.args.threads.now (omega (arith, c.threads-test.false)))
