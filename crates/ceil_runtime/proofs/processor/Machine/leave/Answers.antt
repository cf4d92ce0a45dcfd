use Rattle.std.proofs.Common.{sym, ap, ◌∙◌, refl, arith, map, take, Some}
use Rattle.task_runtime.specs.declared.piece.Deed.TheVariants.{Leave}
use Rattle.ceil_runtime.specs.Shown.{snapshot_of}
use Rattle.ceil_runtime.proofs.EntryFacts.{all-names, found-op, found-shows, leaves-there, met, met-within, place-few, same-count, same-names}
use Rattle.ceil_runtime.proofs.EntrySteps.{leave-step}
use Rattle.ceil_runtime.proofs.ObjectsKept.{changed-objects}
use Rattle.ceil_runtime.proofs.Phases.{caller-at-work, caller-works, doing-here, doing-known, step-beside, telling}
use Rattle.ceil_runtime.proofs.processor.Machine.leave.Goals as goal

pub index_mut-object-requires : goal.index_mut-object-requires
index_mut-object-requires c =
    let m = c.args.self.now in
    let w = c.requires.does in
    omega (
      arith,
      met-within m c.args.task c.args.piece (Leave c.args.entry) w c.args.entry (leaves-there m c.args.task c.args.piece c.args.entry w.0
          w.1),
      m.objects.ok.0,
    )

pub index_mut-caller-requires : goal.index_mut-caller-requires
index_mut-caller-requires c =
    omega (arith, doing-known (snapshot_of c.args.self.now) c.args.task c.args.piece (Leave c.args.entry) c.requires.does, c.args.self.now.tasks.ok.0)

pub leave-values-requires-clause-ready : goal.leave-values-requires-clause-ready
leave-values-requires-clause-ready c =
    (doing-here (snapshot_of c.args.self.now) c.args.task c.args.piece (Leave c.args.entry) c.requires.does _ c.index_mut-caller.ensures.value).ready

pub leave-values-requires-clause-at_work : goal.leave-values-requires-clause-at_work
leave-values-requires-clause-at_work c =
    caller-at-work (snapshot_of c.args.self.now) c.args.task c.requires.does.1.acting _ c.index_mut-caller.ensures.value

pub leave-values-requires-clause-entry : goal.leave-values-requires-clause-entry
leave-values-requires-clause-entry c =
    (doing-here (snapshot_of c.args.self.now) c.args.task c.args.piece (Leave c.args.entry) c.requires.does _ c.index_mut-caller.ensures.value).deed.1

pub leave-values-requires-clause-piece : goal.leave-values-requires-clause-piece
leave-values-requires-clause-piece c =
    let h = doing-here (snapshot_of c.args.self.now) c.args.task c.args.piece (Leave c.args.entry) c.requires.does _
    c.index_mut-caller.ensures.value in
    h.piece ∙ ap Some h.deed.0

pub leave-values-requires-clause-room : goal.leave-values-requires-clause-room
leave-values-requires-clause-room c = λ g at.
    let m = c.args.self.now in
    let e = c.args.entry in
    let w = c.requires.does in
    let t = c.index_mut-caller.result.now in
    let o = c.index_mut-object.result.now in
    let f = met m c.args.task c.args.piece (Leave e) w e (leaves-there m c.args.task c.args.piece e w.0 w.1) t c.index_mut-caller.ensures.value o
    c.index_mut-object.ensures.value in
    omega (arith, o.room, same-count m c.args.task t e o f g at)

pub leave-values-requires-clause-few : goal.leave-values-requires-clause-few
leave-values-requires-clause-few c =
    caller-works (snapshot_of c.args.self.now) c.args.task c.requires.does.1.acting _ c.index_mut-caller.ensures.value

pub leave-values-requires-clause-ticking : goal.leave-values-requires-clause-ticking
leave-values-requires-clause-ticking c = c.args.self.now.ticking

pub invariant_of-object : goal.invariant_of-object
invariant_of-object c =
    let m = c.args.self.now in
    let e = c.args.entry in
    let w = c.requires.does in
    let t = c.index_mut-caller.result.now in
    let o = c.index_mut-object.result.now in
    let f = met m c.args.task c.args.piece (Leave e) w e (leaves-there m c.args.task c.args.piece e w.0 w.1) t c.index_mut-caller.ensures.value o
    c.index_mut-object.ensures.value in
    let vs = c.leave-values.new.«data» in
    let g = f.found.entered.entered in
    let at = f.found.entered.at in
    record {
      names = all-names vs.items (map (λ d. d.name) o.written.now) (c.leave-values.ensures.names g at ∙ sym (same-names m c.args.task t e o f g at))
          ∙ ap (λ n. take n (map (λ d. d.name) o.written.now)) (sym vs.ok.0);
      few = o.few;
      room = omega (arith, o.room, c.leave-values.ensures.room);
    }

pub invariant_of-self-clause-known : goal.invariant_of-self-clause-known
invariant_of-self-clause-known c =
    let m = c.args.self.now in
    let e = c.args.entry in
    let w = c.requires.does in
    let o = c.index_mut-object.result.now in
    let f = met m c.args.task c.args.piece (Leave e) w e (leaves-there m c.args.task c.args.piece e w.0 w.1) _ c.index_mut-caller.ensures.value o
    c.index_mut-object.ensures.value in
    changed-objects m.units.now m.objects.items e.object o _ f.there refl m.known

pub overflow_cast-entry : goal.overflow_cast-entry
overflow_cast-entry c =
    let m = c.args.self.now in
    let e = c.args.entry in
    let w = c.requires.does in
    let t = c.index_mut-caller.result.now in
    let o = c.index_mut-object.result.now in
    let f = met m c.args.task c.args.piece (Leave e) w e (leaves-there m c.args.task c.args.piece e w.0 w.1) t c.index_mut-caller.ensures.value o
    c.index_mut-object.ensures.value in
    omega (arith, place-few m c.args.task t e o f)

pub returns : goal.returns
returns c =
    let m = c.args.self.now in
    let s = snapshot_of m in
    let i = c.args.task in
    let e = c.args.entry in
    let w = c.requires.does in
    let t = c.index_mut-caller.result.now in
    let o = c.index_mut-object.result.now in
    let h = doing-here s i c.args.piece (Leave e) w t c.index_mut-caller.ensures.value in
    let f = met m i c.args.piece (Leave e) w e (leaves-there m c.args.task c.args.piece e w.0 w.1) t c.index_mut-caller.ensures.value o
    c.index_mut-object.ensures.value in
    telling s _ _ _ (step-beside s i h.acting _ _ refl refl refl
    (λ whole. leave-step s i whole t h.here h.due c.leave-values.new.self c.go_outside.new.self c.leave-values.ensures.thread
    c.go_outside.ensures.progress c.leave-values.ensures.works c.leave-values.ensures.falls c.leave-values.ensures.at_work e.object e.place _
    f.found.entered.entered f.found.at
    m.objects.items refl o _ f.there (found-shows m i t e o f) (found-op m i t e o f) c.leave-values.ensures.leaves c.leave-values.ensures.inside
    c.go_outside.ensures.task)) c.tell.ensures
