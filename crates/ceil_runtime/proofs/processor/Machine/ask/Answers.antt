use Rattle.std.proofs.Common.{ap, arith, inr, length, refl, set, subst, sym, ◌∙◌, []}
use Rattle.std.specs.Prelude.{nat_lt}
use Rattle.std.proofs.lemmas.Option.{same_Some, slice_get_read}
use Rattle.machine.specs.Deeds as deeds
use Rattle.machine.specs.States.{Control}
use Rattle.task_runtime.specs.declared.effects.Act.TheVariants as acts
use Rattle.task_runtime.specs.declared.piece.Deed.TheVariants.{Ask}
use Rattle.ceil_runtime.specs.Acted.{with_tasks}
use Rattle.ceil_runtime.specs.Shown.{snapshot_of}
use Rattle.ceil_runtime.specs.Stepping.{Nothing, Steps}
use Rattle.ceil_runtime.proofs.ActedLaws.{acted-asks, acted-found, acted-whole, acted-within, ask-acted}
use Rattle.ceil_runtime.proofs.EntrySteps.{doing-act, doing-first, stop-reached}
use Rattle.ceil_runtime.proofs.Phases.{doing-here, doing-known, doing-piece, doing-there, telling}
use Rattle.ceil_runtime.proofs.Reached.{among-tasks, asked-ceiling, asked-unit}
use Rattle.task_runtime.proofs.Shared.TasksAtWork.{has-room, stays-asking}
use Rattle.ceil_runtime.proofs.processor.Machine.ask.Goals as goal

pub index-asked-requires : goal.index-asked-requires
index-asked-requires c =
    let w = c.requires.does in
    let m = c.args.self.now in
    let below = among-tasks m.units.now m.tasks.items w.1.acting.whole.sound.calls c.args.task w.0 w.1.here c.args.target
    (stays-asking m.code w.0 (w.1.acting.whole.at_work c.args.task w.0 w.1.here) c.args.piece w.1.piece c.args.target w.1.deed).1 in
    omega (arith, below, m.tasks.ok.0)

pub index-requires : goal.index-requires
index-requires c =
    omega (arith, doing-known (snapshot_of c.args.self.now) c.args.task c.args.piece (Ask c.args.target) c.requires.does, c.args.self.now.tasks.ok.0)

pub stop-requires : goal.stop-requires
stop-requires c = record { known = doing-known (snapshot_of c.args.self.now) c.args.task c.args.piece (Ask c.args.target) c.requires.does }

pub returns-then-is_above : goal.returns-then-is_above
returns-then-is_above c =
    let m = c.args.self.now in
    let s = snapshot_of m in
    let k = c.args.target in
    let t = c.index.result.now in
    let h = doing-here s c.args.task c.args.piece (Ask k) c.requires.does t c.index.ensures in
    let u = c.index-asked.result.now in
    let below = among-tasks s.units s.tasks h.acting.whole.sound.calls c.args.task t h.here k
    (stays-asking m.code t (h.acting.whole.at_work c.args.task t h.here) c.args.piece h.piece k h.deed).1 in
    let there = slice_get_read s.tasks (length s.tasks) k u refl below c.index-asked.ensures in
    telling s _ _ _ (stop-reached s c.args.task c.args.piece (Ask k) t h (Control k) u.progress.stack.thread.unit c.ceiling_of-ceiling.result [] (deeds.Ask k)
    (doing-first s c.args.task c.args.piece (Ask k) t h)
    (doing-act s c.args.task c.args.piece (Ask k) t h) (λ vars ps. refl) (asked-unit s.until s.costs s.units s.tasks k u there)
    (asked-ceiling s.until s.costs s.units s.tasks k u there ∙ sym c.ceiling_of-ceiling.ensures) (sym c.is_above.ensures ∙ c.if-is_above.true)
    (inr (record { place = k; task = u; here = there; is_unit = refl })) _ refl _ c.stop.ensures.machine) (c.stop.ensures.told t h.here)

pub own_effect-requires-clause-acting : goal.own_effect-requires-clause-acting
own_effect-requires-clause-acting c = c.requires.does.1.acting

pub own_effect-requires-clause-piece : goal.own_effect-requires-clause-piece
own_effect-requires-clause-piece c = doing-piece (snapshot_of c.args.self.now) c.args.task c.args.piece (Ask c.args.target) c.requires.does

pub own_effect-requires-clause-outside : goal.own_effect-requires-clause-outside
own_effect-requires-clause-outside c = λ t there.
    let h = doing-there (snapshot_of c.args.self.now) c.args.task c.args.piece (Ask c.args.target) c.requires.does t there in
    (stays-asking c.args.self.now.code t (h.acting.whole.at_work c.args.task t there) c.args.piece h.piece c.args.target h.deed).0

pub index_mut-requires : goal.index_mut-requires
index_mut-requires c =
    let a = c.own_effect.ensures.acted in
    omega (
      arith,
      acted-within c.args.self.now.tasks.items (snapshot_of c.own_effect.new.self) c.args.task c.own_effect.result a.0 a.1 a.2,
      c.own_effect.new.self.tasks.ok.0,
    )

pub go_inside-requires : goal.go_inside-requires
go_inside-requires c =
    let ts = c.args.self.now.tasks.items in
    let n = snapshot_of c.own_effect.new.self in
    let i = c.args.task in
    let k = c.args.target in
    let a = c.own_effect.ensures.acted in
    let x = c.index_mut.result.now in
    let h = acted-found ts n i (acts.Ask k) a.0 a.1 (acted-asks ts n i c.own_effect.result a.0 a.1 a.2 k
    (doing-there (snapshot_of c.args.self.now) i c.args.piece (Ask k) c.requires.does a.0 a.2.here).reaches) x c.index_mut.ensures.value in
    let d = h.done in
    has-room n.code a.0 x n.costs d.acts.vars d.acts.pieces d.at_work d.acts.after d.inside
    ((acted-whole ts n i (acts.Ask k) a.0 x h).sound.kept i a.0 h.here).nested

pub returns : goal.returns
returns c =
    let ts = c.args.self.now.tasks.items in
    let s = snapshot_of c.args.self.now in
    let n = snapshot_of c.own_effect.new.self in
    let i = c.args.task in
    let k = c.args.target in
    let a = c.own_effect.ensures.acted in
    let x = c.index_mut.result.now in
    let w = doing-there s i c.args.piece (Ask k) c.requires.does a.0 a.2.here in
    let h = acted-found ts n i (acts.Ask k) a.0 a.1 (acted-asks ts n i c.own_effect.result a.0 a.1 a.2 k w.reaches) x c.index_mut.ensures.value in
    let t = c.index.result.now in
    let was = same_Some t a.0 (sym (doing-here s i c.args.piece (Ask k) c.requires.does t c.index.ensures).here ∙ a.2.here) in
    let u = c.index-asked.result.now in
    let below = among-tasks s.units ts w.acting.whole.sound.calls i a.0 w.here k
    (stays-asking s.code a.0 (w.acting.whole.at_work i a.0 w.here) c.args.piece w.piece k w.deed).1 in
    let there = slice_get_read ts (length ts) k u refl below c.index-asked.ensures in
    let ceiling_is = asked-ceiling n.until n.costs n.units ts k u there ∙ sym c.ceiling_of-ceiling.ensures in
    let low = ap (λ v. nat_lt c.ceiling_of-ceiling.result v.active) (sym was) ∙ sym c.is_above.ensures ∙ c.if-is_above.false in
    telling s _ Nothing _ (subst (λ y. Steps y Nothing (with_tasks (set n.tasks i c.go_inside.new.self) n)) (sym c.own_effect.ensures.before)
    (ask-acted ts n i a.0 x k h c.go_inside.new.self c.go_inside.ensures.progress c.ceiling_of-ceiling.result ceiling_is c.go_inside.ensures.task low))
    c.requires.empty
