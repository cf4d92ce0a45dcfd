use Rattle.std.proofs.Common.{arith, ap, ◌∙◌}
use Rattle.std.specs.Prelude.{ℕ}
use Rattle.link_queue.specs.Queues.{Queues, in_time}
use Rattle.task_runtime.specs.declared.effects.Act.TheVariants.{Finish}
use Rattle.ceil_runtime.specs.Acted.{with_tasks}
use Rattle.ceil_runtime.specs.Shown.{snapshot_of}
use Rattle.ceil_runtime.proofs.ActedLaws.{acted-found, acted-within, acted-works, ended-free, ended-next, ended-rest, served-acted, sleep-acted}
use Rattle.ceil_runtime.proofs.ActedLaws.{wait-acted}
use Rattle.ceil_runtime.proofs.Phases.{telling}
use Rattle.ceil_runtime.proofs.processor.Machine.finish.Goals as goal

pub index_mut-active-requires : goal.index_mut-active-requires
index_mut-active-requires c =
    let r = c.requires.acted in
    omega (arith, acted-within r.0 (snapshot_of c.args.self.now) c.args.task Finish r.1 r.2 r.3, c.args.self.now.tasks.ok.0)

pub sleep-requires : goal.sleep-requires
sleep-requires c = let r = c.requires.acted in ended-free r.0 (snapshot_of c.args.self.now) c.args.task r.1 r.2 r.3

pub push_tail-requires : goal.push_tail-requires
push_tail-requires c = let r = c.requires.acted in ended-free r.0 (snapshot_of c.args.self.now) c.args.task r.1 r.2 r.3

pub release-requires-clause-rests : goal.release-requires-clause-rests
release-requires-clause-rests c =
    let r = c.requires.acted in
    let s = snapshot_of c.args.self.now in
    let x = c.index_mut-active.result.now in
    ended-rest r.0 s c.args.task r.1 x (acted-found r.0 s c.args.task Finish r.1 r.2 r.3 x c.index_mut-active.ensures.value)

pub release-requires-clause-near : goal.release-requires-clause-near
release-requires-clause-near c =
    let r = c.requires.acted in
    let s = snapshot_of c.args.self.now in
    let x = c.index_mut-active.result.now in
    ended-next r.0 s c.args.task r.1 x (acted-found r.0 s c.args.task Finish r.1 r.2 r.3 x c.index_mut-active.ensures.value)

pub release-requires-clause-at_work : goal.release-requires-clause-at_work
release-requires-clause-at_work c =
    let r = c.requires.acted in
    let s = snapshot_of c.args.self.now in
    let x = c.index_mut-active.result.now in
    (acted-found r.0 s c.args.task Finish r.1 r.2 r.3 x c.index_mut-active.ensures.value).done.at_work

pub release-requires-clause-few : goal.release-requires-clause-few
release-requires-clause-few c =
    let r = c.requires.acted in
    let s = snapshot_of c.args.self.now in
    let x = c.index_mut-active.result.now in
    acted-works r.0 s c.args.task Finish r.1 x (acted-found r.0 s c.args.task Finish r.1 r.2 r.3 x c.index_mut-active.ensures.value)

pub returns-in-Asleep : goal.returns-in-Asleep
returns-in-Asleep c = λ ts t t' acted.
    let s = snapshot_of c.args.self.now in
    let x = c.index_mut-active.result.now in
    let until : ℕ → Queues = λ k. record s.queues { asleep = in_time (c.args.task, k) s.queues.asleep } in
    telling (with_tasks ts s) _ _ _ (sleep-acted ts s c.args.task t x (acted-found ts s c.args.task Finish t t' acted x c.index_mut-active.ensures.value) c.in-Asleep.is
    c.sleep.new.self (c.sleep.ensures ∙ ap until c.max.ensures)) c.tell.ensures

pub returns-then-not-active : goal.returns-then-not-active
returns-then-not-active c = λ ts t t' acted.
    let s = snapshot_of c.args.self.now in
    let x = c.index_mut-active.result.now in
    telling (with_tasks ts s) _ _ _ (wait-acted ts s c.args.task t x (acted-found ts s c.args.task Finish t t' acted x c.index_mut-active.ensures.value) c.in_default.not-Asleep
    c.if-not-active.true) c.tell-then-not-active.ensures

pub returns : goal.returns
returns c = λ ts t t' acted.
    let s = snapshot_of c.args.self.now in
    let x = c.index_mut-active.result.now in
    telling (with_tasks ts s) _ _ _ (served-acted ts s c.args.task t x (acted-found ts s c.args.task Finish t t' acted x c.index_mut-active.ensures.value) c.in_default.not-Asleep
    c.if-not-active.false c.release.new.self c.release.ensures.task c.release.ensures.thread c.release.ensures.works c.release.ensures.some
    c.release.ensures.at_work c.push_tail.new.self c.push_tail.ensures) c.tell_both.ensures
