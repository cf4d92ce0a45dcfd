use Rattle.std.proofs.Common.{sym, subst, ap, ◌∙◌, refl, arith, length, map, take, [], ◌∷◌, inl}
use Rattle.std.specs.Prelude.{IfSome, IsSome, nat_lt}
use Rattle.std.proofs.lemmas.Option.{same_Some}
use Rattle.machine.specs.Deeds as deeds
use Rattle.machine.specs.Effects.{inside_now, object_unit}
use Rattle.machine.specs.States.{Object}
use Rattle.trace_tree.specs.declared.event.Event.TheVariants as event
use Rattle.task_runtime.specs.Fitting.{names_of}
use Rattle.task_runtime.specs.Stacked.{vars_of}
use Rattle.task_runtime.specs.Doings.{IsEntry}
use Rattle.task_runtime.specs.Tasks.{task_of}
use Rattle.task_runtime.specs.declared.piece.Deed.TheVariants.{Enter}
use Rattle.ceil_runtime.specs.Shown.{snapshot_of}
use Rattle.ceil_runtime.specs.Snapshots.{system_at}
use Rattle.ceil_runtime.proofs.EntryFacts.{enters-there, found-op, found-shows, found-unit, met, met-within, place-few, same-names}
use Rattle.ceil_runtime.proofs.EntrySteps.{doing-act, doing-first, enter-step, stop-reached}
use Rattle.ceil_runtime.proofs.ObjectsKept.{changed-objects, entered-ceiling, entered-unit}
use Rattle.ceil_runtime.proofs.Homes.{entered-names}
use Rattle.ceil_runtime.proofs.Phases.{caller-at-work, caller-works, doing-here, doing-known, step-beside, telling}
use Rattle.task_runtime.proofs.Shared.TasksAtWork.{has-room}
use Rattle.ceil_runtime.proofs.processor.Machine.enter.Goals as goal

pub index-object-requires : goal.index-object-requires
index-object-requires c =
    let m = c.args.self.now in
    let w = c.requires.does in
    omega (
      arith,
      met-within m c.args.task c.args.piece (Enter c.args.entry) w c.args.entry (enters-there m c.args.task c.args.piece c.args.entry w.0
          w.1),
      m.objects.ok.0,
    )

pub index_mut-object-requires : goal.index_mut-object-requires
index_mut-object-requires c =
    let m = c.args.self.now in
    let w = c.requires.does in
    omega (
      arith,
      met-within m c.args.task c.args.piece (Enter c.args.entry) w c.args.entry (enters-there m c.args.task c.args.piece c.args.entry w.0
          w.1),
      m.objects.ok.0,
    )

pub index-requires : goal.index-requires
index-requires c =
    omega (arith, doing-known (snapshot_of c.args.self.now) c.args.task c.args.piece (Enter c.args.entry) c.requires.does, c.args.self.now.tasks.ok.0)

pub index_mut-caller-requires : goal.index_mut-caller-requires
index_mut-caller-requires c =
    omega (arith, doing-known (snapshot_of c.args.self.now) c.args.task c.args.piece (Enter c.args.entry) c.requires.does, c.args.self.now.tasks.ok.0)

pub stop-requires : goal.stop-requires
stop-requires c = record { known = doing-known (snapshot_of c.args.self.now) c.args.task c.args.piece (Enter c.args.entry) c.requires.does }

pub enter-values-requires-clause-ready : goal.enter-values-requires-clause-ready
enter-values-requires-clause-ready c =
    (doing-here (snapshot_of c.args.self.now) c.args.task c.args.piece (Enter c.args.entry) c.requires.does _ c.index_mut-caller.ensures.value).ready

pub enter-values-requires-clause-at_work : goal.enter-values-requires-clause-at_work
enter-values-requires-clause-at_work c =
    caller-at-work (snapshot_of c.args.self.now) c.args.task c.requires.does.1.acting _ c.index_mut-caller.ensures.value

pub enter-values-requires-clause-entry : goal.enter-values-requires-clause-entry
enter-values-requires-clause-entry c =
    let h = doing-here (snapshot_of c.args.self.now) c.args.task c.args.piece (Enter c.args.entry) c.requires.does _
    c.index_mut-caller.ensures.value in
    subst (λ o. IfSome o (λ p. IsEntry c.args.self.now.code p c.args.entry.object c.args.entry.place)) (sym h.piece) h.deed

pub enter-values-requires-clause-some : goal.enter-values-requires-clause-some
enter-values-requires-clause-some c =
    let h = doing-here (snapshot_of c.args.self.now) c.args.task c.args.piece (Enter c.args.entry) c.requires.does _
    c.index_mut-caller.ensures.value in
    subst IsSome (sym h.piece) refl

pub enter-values-requires-clause-names : goal.enter-values-requires-clause-names
enter-values-requires-clause-names c = λ g at.
    let m = c.args.self.now in
    let i = c.args.task in
    let e = c.args.entry in
    let w = c.requires.does in
    let t = c.index_mut-caller.result.now in
    let o = c.index_mut-object.result.now in
    let t0 = c.index.result.now in
    let o0 = c.index-object.result.now in
    let there = enters-there m i c.args.piece e w.0 w.1 in
    let f = met m i c.args.piece (Enter e) w e there t c.index_mut-caller.ensures.value o c.index_mut-object.ensures.value in
    let before = met m i c.args.piece (Enter e) w e there t0 c.index.ensures o0 c.index-object.ensures in
    let low = ap (λ x. nat_lt x.ceiling t.active) (sym (same_Some o0 o (sym before.there ∙ f.there))) ∙ ap (λ v. nat_lt o0.ceiling v.active)
    (sym (same_Some t0 t (sym before.here ∙ f.here))) ∙ sym c.is_above.ensures ∙ c.if-is_above.false in
    entered-names m i c.args.piece e w t c.index_mut-caller.ensures.value o c.index_mut-object.ensures.value low ∙ same-names m i t e o f g at

pub enter-values-requires-clause-few : goal.enter-values-requires-clause-few
enter-values-requires-clause-few c =
    caller-works (snapshot_of c.args.self.now) c.args.task c.requires.does.1.acting _ c.index_mut-caller.ensures.value

pub enter-values-requires-clause-ticking : goal.enter-values-requires-clause-ticking
enter-values-requires-clause-ticking c = c.args.self.now.ticking

pub go_inside-requires : goal.go_inside-requires
go_inside-requires c =
    let m = c.args.self.now in
    let s = snapshot_of m in
    let t = c.index_mut-caller.result.now in
    let h = doing-here s c.args.task c.args.piece (Enter c.args.entry) c.requires.does t c.index_mut-caller.ensures.value in
    let a = c.enter-values.ensures.enters in
    has-room m.code t c.enter-values.new.self m.costs _ a.pieces c.enter-values.ensures.at_work a.after c.enter-values.ensures.inside
    (h.acting.whole.sound.kept c.args.task t h.here).nested

pub invariant_of-object : goal.invariant_of-object
invariant_of-object c =
    let o = c.index_mut-object.result.now in
    let vs = c.enter-values.new.«data» in
    record {
      names = ap (λ xs. names_of (vars_of xs)) c.enter-values.ensures.lent ∙ ap (λ n. take n (map (λ d. d.name) o.written.now)) (sym
          (vs.ok.0 ∙ ap length c.enter-values.ensures.lent));
      few = o.few;
      room = omega (arith, o.room, c.enter-values.ensures.room);
    }

pub invariant_of-self-2-clause-known : goal.invariant_of-self-2-clause-known
invariant_of-self-2-clause-known c =
    let m = c.args.self.now in
    let e = c.args.entry in
    let w = c.requires.does in
    let o = c.index_mut-object.result.now in
    let f = met m c.args.task c.args.piece (Enter e) w e (enters-there m c.args.task c.args.piece e w.0 w.1) _ c.index_mut-caller.ensures.value o
    c.index_mut-object.ensures.value in
    changed-objects m.units.now m.objects.items e.object o _ f.there refl m.known

pub overflow_cast-entry : goal.overflow_cast-entry
overflow_cast-entry c =
    let m = c.args.self.now in
    let e = c.args.entry in
    let w = c.requires.does in
    let t = c.index_mut-caller.result.now in
    let o = c.index_mut-object.result.now in
    let f = met m c.args.task c.args.piece (Enter e) w e (enters-there m c.args.task c.args.piece e w.0 w.1) t c.index_mut-caller.ensures.value o
    c.index_mut-object.ensures.value in
    omega (arith, place-few m c.args.task t e o f)

pub returns-then-is_above : goal.returns-then-is_above
returns-then-is_above c =
    let m = c.args.self.now in
    let s = snapshot_of m in
    let i = c.args.task in
    let e = c.args.entry in
    let w = c.requires.does in
    let t = c.index.result.now in
    let o = c.index-object.result.now in
    let h = doing-here s i c.args.piece (Enter e) w t c.index.ensures in
    let f = met m i c.args.piece (Enter e) w e (enters-there m c.args.task c.args.piece e w.0 w.1) t c.index.ensures o c.index-object.ensures in
    let shows = found-shows m i t e o f in
    let act = doing-act s i c.args.piece (Enter e) t h in
    telling s _ _ _ (stop-reached s i c.args.piece (Enter e) t h (Object e.object) o.unit o.ceiling
    (event.Enter m.time t.progress.stack.thread.unit (object_unit (system_at s) e.object) e.place act.0 ∷ [])
    (deeds.Enter e.object e.place act.0) (doing-first s i c.args.piece (Enter e) t h) act.1 (λ vars ps. refl)
    (entered-unit m.until m.costs m.units.now m.tasks.items e.object f.found.entered.entered f.found.at o shows)
    (entered-ceiling m.until m.costs m.units.now m.tasks.items e.object f.found.entered.entered f.found.at o shows)
    (sym c.is_above.ensures ∙ c.if-is_above.true) (inl (found-unit m i t e o f)) _ refl _
    c.stop.ensures.machine) (c.stop.ensures.told t h.here)

pub returns : goal.returns
returns c =
    let m = c.args.self.now in
    let s = snapshot_of m in
    let i = c.args.task in
    let e = c.args.entry in
    let w = c.requires.does in
    let t = c.index_mut-caller.result.now in
    let t' = c.enter-values.new.self in
    let o = c.index_mut-object.result.now in
    let h = doing-here s i c.args.piece (Enter e) w t c.index_mut-caller.ensures.value in
    let f = met m i c.args.piece (Enter e) w e (enters-there m c.args.task c.args.piece e w.0 w.1) t c.index_mut-caller.ensures.value o
    c.index_mut-object.ensures.value in
    let t0 = c.index.result.now in
    let o0 = c.index-object.result.now in
    let before = met m i c.args.piece (Enter e) w e (enters-there m c.args.task c.args.piece e w.0 w.1) t0 c.index.ensures o0 c.index-object.ensures
    in
    let same_t = same_Some t0 t (sym before.here ∙ f.here) in
    let same_o = same_Some o0 o (sym before.there ∙ f.there) in
    let low = ap (λ x. nat_lt x.ceiling t.active) (sym same_o) ∙ ap (λ v. nat_lt o0.ceiling v.active)
    (sym same_t) ∙ sym c.is_above.ensures ∙ c.if-is_above.false in
    telling s _ _ _ (step-beside s i h.acting _ _ refl refl refl
    (λ whole. enter-step s i whole t h.here h.due t' c.go_inside.new.self c.enter-values.ensures.thread
    c.go_inside.ensures.progress c.enter-values.ensures.works c.enter-values.ensures.falls c.enter-values.ensures.at_work e.object e.place _
    f.found.entered.entered f.found.at
    m.objects.items refl o _ f.there (found-shows m i t e o f) (found-op m i t e o f) c.enter-values.ensures.enters c.enter-values.ensures.inside
    (c.go_inside.ensures.task ∙ ap (λ x. inside_now (Object e.object) x.ceiling (task_of t')) same_o) low (ap vars_of c.enter-values.ensures.lent))) c.tell.ensures
