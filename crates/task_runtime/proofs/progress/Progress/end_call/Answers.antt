use Rattle.std.proofs.Common.{◌≡◌, List, [], length, refl, ap, ◌∙◌, arith, rules, Some}
use Rattle.seq_tree.specs.Expressions.{Expression}
use Rattle.linker.specs.Standing.{values_in}
use Rattle.linker.specs.Slots.{set_all}
use Rattle.task_runtime.specs.Handing.{target_slots}
use Rattle.task_runtime.proofs.Callings.{here_few}
use Rattle.task_runtime.proofs.Endings.{back_after, behind_amid, call_there, distinct_given, few_given, is_there, not_bare, out_fits, read_call}
use Rattle.task_runtime.proofs.Endings.{returned}
use Rattle.task_runtime.proofs.Endings.{targets_there, values_fit, values_out}
use Rattle.task_runtime.proofs.Returns.{away_fits}
use Rattle.task_runtime.proofs.progress.Progress.end_call.Goals as goal

pub unreachable-requires : goal.unreachable-requires
unreachable-requires c =
    let none : c.args.self.now.stack.frames.items ≡ [] = search rules in
    not_bare c.args.code.now c.args.self.now c.requires.at_work c.requires.piece none

pub overflow_add-top-2 : goal.overflow_add-top-2
overflow_add-top-2 c =
    let s = c.args.self.now.stack in
    let le = out_fits c.args.code.now s c.requires.at_work.stacked c.pop.new.self.items c.in-Some.frame c.in-Some.ensures.items in
    let few = here_few c.args.code.now s c.requires.at_work.stacked in
    omega (
      arith,
      le,
      few,
      c.len.ensures,
      c.len-2.ensures,
      c.in-Some.frame.body.op.now.sig.params.ok.0,
      c.in-Some.frame.body.op.now.locals.ok.0,
    )

pub hand_out-requires-clause-room : goal.hand_out-requires-clause-room
hand_out-requires-clause-room c =
    few_given c.args.code.now c.args.self.now.stack c.requires.at_work.stacked c.pop.new.self.items c.in-Some.frame c.in-Some.ensures.items
    c.deref.result.now c.deref.ensures.value c.new-values.result c.new-values.ensures

pub hand_out-requires-clause-distinct : goal.hand_out-requires-clause-distinct
hand_out-requires-clause-distinct c =
    distinct_given c.args.code.now c.args.self.now.stack c.requires.at_work.stacked c.pop.new.self.items c.in-Some.frame c.in-Some.ensures.items
    c.deref.result.now c.deref.ensures.value

pub hand_out-requires-clause-there : goal.hand_out-requires-clause-there
hand_out-requires-clause-there c =
    let s = c.args.self.now.stack in
    let le = out_fits c.args.code.now s c.requires.at_work.stacked c.pop.new.self.items c.in-Some.frame c.in-Some.ensures.items in
    omega (arith, le, c.len.ensures, c.len-2.ensures, c.in-Some.frame.body.op.now.sig.params.ok.0, c.in-Some.frame.body.op.now.locals.ok.0)

pub leave-requires : goal.leave-requires
leave-requires c =
    away_fits c.args.code.now c.args.self.now.stack c.requires.at_work.stacked c.pop.new.self.items c.in-Some.frame c.in-Some.ensures.items

pub index-requires : goal.index-requires
index-requires c =
    let lt = call_there c.args.code.now c.args.self.now c.requires.at_work c.requires.piece c.pop.new.self.items c.in-Some.frame
    c.in-Some.ensures.items c.pop.new.self refl c.in-Some.ensures.room c.leave.new.self c.leave.ensures.away c.leave.ensures.here in
    omega (arith, lt, c.args.code.now.code.ins.ok.0)

pub unreachable-requires-in_default-index : goal.unreachable-requires-in_default-index
unreachable-requires-in_default-index c =
    let there = read_call c.args.code.now c.args.self.now c.requires.at_work c.requires.piece c.pop.new.self.items c.in-Some.frame
    c.in-Some.ensures.items c.pop.new.self refl c.in-Some.ensures.room c.leave.new.self c.leave.ensures.away c.leave.ensures.here
    c.index.result.now c.index.ensures in
    c.in_default-index.not-Call _ _ _ (is_there c.args.code.now c.args.self.now c.requires.at_work c.requires.piece c.pop.new.self.items
    c.in-Some.frame
    c.in-Some.ensures.items c.pop.new.self refl c.in-Some.ensures.room c.leave.new.self c.leave.ensures.away c.leave.ensures.here
    c.index.result.now there)

pub overflow_add-first : goal.overflow_add-first
overflow_add-first c =
    let there = read_call c.args.code.now c.args.self.now c.requires.at_work c.requires.piece c.pop.new.self.items c.in-Some.frame
    c.in-Some.ensures.items c.pop.new.self refl c.in-Some.ensures.room c.leave.new.self c.leave.ensures.away c.leave.ensures.here
    c.index.result.now c.index.ensures in
    let count : (es : List Expression) → c.ins_len.result ≡ length (values_in c.in-Some.frame.body.op.now.sig.params.items es) =
    λ es. c.ins_len.ensures es ∙ ap (λ ps. length (values_in ps es)) c.deref-2.ensures.value in
    let le = values_fit c.args.code.now c.args.self.now c.requires.at_work c.requires.piece c.pop.new.self.items c.in-Some.frame
    c.in-Some.ensures.items c.pop.new.self refl c.in-Some.ensures.room c.leave.new.self c.leave.ensures.away c.leave.ensures.here
    c.in-Call.op c.in-Call.actuals c.in-Call.outs (there ∙ ap Some c.in-Call.is) c.ins_len.result count in
    omega (arith, le, c.type_inv.actuals)

pub store-requires : goal.store-requires
store-requires c =
    let there = read_call c.args.code.now c.args.self.now c.requires.at_work c.requires.piece c.pop.new.self.items c.in-Some.frame
    c.in-Some.ensures.items c.pop.new.self refl c.in-Some.ensures.room c.leave.new.self c.leave.ensures.away c.leave.ensures.here
    c.index.result.now c.index.ensures in
    let count : (es : List Expression) → c.ins_len.result ≡ length (values_in c.in-Some.frame.body.op.now.sig.params.items es) =
    λ es. c.ins_len.ensures es ∙ ap (λ ps. length (values_in ps es)) c.deref-2.ensures.value in
    targets_there c.args.code.now c.args.self.now c.requires.at_work c.requires.piece c.pop.new.self.items c.in-Some.frame
    c.in-Some.ensures.items c.pop.new.self refl c.in-Some.ensures.room c.leave.new.self c.leave.ensures.away c.leave.ensures.here
    c.in-Call.op c.in-Call.actuals c.in-Call.outs (there ∙ ap Some c.in-Call.is) c.ins_len.result count

pub overflow_add-frame : goal.overflow_add-frame
overflow_add-frame c =
    let lt = call_there c.args.code.now c.args.self.now c.requires.at_work c.requires.piece c.pop.new.self.items c.in-Some.frame
    c.in-Some.ensures.items c.pop.new.self refl c.in-Some.ensures.room c.leave.new.self c.leave.ensures.away c.leave.ensures.here in
    omega (arith, lt, c.args.code.now.code.ins.ok)

pub go_to-requires-clause-stacked : goal.go_to-requires-clause-stacked
go_to-requires-clause-stacked c =
    let there = read_call c.args.code.now c.args.self.now c.requires.at_work c.requires.piece c.pop.new.self.items c.in-Some.frame
    c.in-Some.ensures.items c.pop.new.self refl c.in-Some.ensures.room c.leave.new.self c.leave.ensures.away c.leave.ensures.here
    c.index.result.now c.index.ensures in
    let count : (es : List Expression) → c.ins_len.result ≡ length (values_in c.in-Some.frame.body.op.now.sig.params.items es) =
    λ es. c.ins_len.ensures es ∙ ap (λ ps. length (values_in ps es)) c.deref-2.ensures.value in
    let put = c.store.ensures.here in
    back_after c.args.code.now c.args.self.now c.requires.at_work c.requires.piece c.pop.new.self.items c.in-Some.frame
    c.in-Some.ensures.items c.pop.new.self refl c.in-Some.ensures.room c.leave.new.self c.leave.ensures.away c.leave.ensures.here
    c.in-Call.op c.in-Call.actuals c.in-Call.outs (there ∙ ap Some c.in-Call.is) c.ins_len.result count
    c.as_slice.result.now c.store.new.slots c.store.ensures.away c.store.ensures.len c.store.ensures.here

pub go_to-requires-clause-amid : goal.go_to-requires-clause-amid
go_to-requires-clause-amid c =
    let there = read_call c.args.code.now c.args.self.now c.requires.at_work c.requires.piece c.pop.new.self.items c.in-Some.frame
    c.in-Some.ensures.items c.pop.new.self refl c.in-Some.ensures.room c.leave.new.self c.leave.ensures.away c.leave.ensures.here
    c.index.result.now c.index.ensures in
    let count : (es : List Expression) → c.ins_len.result ≡ length (values_in c.in-Some.frame.body.op.now.sig.params.items es) =
    λ es. c.ins_len.ensures es ∙ ap (λ ps. length (values_in ps es)) c.deref-2.ensures.value in
    behind_amid c.args.code.now c.args.self.now c.requires.at_work c.requires.piece c.pop.new.self.items c.in-Some.frame
    c.in-Some.ensures.items c.pop.new.self refl c.in-Some.ensures.room c.leave.new.self c.leave.ensures.away c.leave.ensures.here
    c.in-Call.op c.in-Call.actuals c.in-Call.outs (there ∙ ap Some c.in-Call.is) c.ins_len.result count
    c.as_slice.result.now c.store.new.slots c.store.ensures.away c.store.ensures.len c.store.ensures.here

pub returns : goal.returns
returns c =
    let there = read_call c.args.code.now c.args.self.now c.requires.at_work c.requires.piece c.pop.new.self.items c.in-Some.frame
    c.in-Some.ensures.items c.pop.new.self refl c.in-Some.ensures.room c.leave.new.self c.leave.ensures.away c.leave.ensures.here
    c.index.result.now c.index.ensures in
    let count : (es : List Expression) → c.ins_len.result ≡ length (values_in c.in-Some.frame.body.op.now.sig.params.items es) =
    λ es. c.ins_len.ensures es ∙ ap (λ ps. length (values_in ps es)) c.deref-2.ensures.value in
    let code = c.args.code.now in
    let p = c.args.self.now in
    let out = values_out code p.stack c.requires.at_work.stacked c.pop.new.self.items c.in-Some.frame c.in-Some.ensures.items c.deref.result.now
    c.deref.ensures.value c.new-values.result c.hand_out.new.values p.stack.slots.here _ c.new-values.ensures refl
    (omega (arith, c.len.ensures, c.len-2.ensures, c.in-Some.frame.body.op.now.sig.params.ok.0, c.in-Some.frame.body.op.now.locals.ok.0))
    c.hand_out.ensures in
    let put = c.store.ensures.here in
    returned c.args.code.now c.args.self.now c.requires.at_work c.requires.piece c.pop.new.self.items c.in-Some.frame
    c.in-Some.ensures.items c.pop.new.self refl c.in-Some.ensures.room c.leave.new.self c.leave.ensures.away c.leave.ensures.here
    c.in-Call.op c.in-Call.actuals c.in-Call.outs (there ∙ ap Some c.in-Call.is) c.ins_len.result count c.hand_out.new.values c.store.new.slots
    c.store.ensures.away c.store.ensures.len
    (λ scope ns st many. put scope ns st many ∙ ap (λ vs. set_all (target_slots scope ns) vs c.leave.new.self.here) c.as_slice.ensures.values)
    out c.go_to.new.self c.go_to.ensures
