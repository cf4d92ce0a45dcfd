use Rattle.std.proofs.Common.{length, refl, ap, ◌∙◌, arith}
use Rattle.task_runtime.proofs.Callings.{calls, few_handed, inside_amid, inside_stacked, lent_fits, locals_fit, op_there}
use Rattle.task_runtime.proofs.Callings.{opened_all, params_fit, read_op, read_start, start_there, values_at, values_handed}
use Rattle.task_runtime.proofs.Calls.{long_here}
use Rattle.task_runtime.proofs.Reaching.{owner_there}
use Rattle.task_runtime.proofs.Reserves.{frame_fits}
use Rattle.task_runtime.proofs.progress.Progress.call.Goals as goal

pub index-body-requires : goal.index-body-requires
index-body-requires c =
    let code = c.args.code.now in
    let lt = op_there code c.args.self.now c.requires.at_work c.args.op c.args.actuals c.requires.piece.0 c.requires.piece.1 in
    omega (arith, lt, code.ops.ok.0)

pub index-start-requires : goal.index-start-requires
index-start-requires c =
    let code = c.args.code.now in
    let lt = start_there code c.args.self.now c.requires.at_work c.args.op c.args.actuals c.requires.piece.0 c.requires.piece.1 in
    omega (arith, lt, code.starts.ok.0)

pub hand_in-requires-clause-room : goal.hand_in-requires-clause-room
hand_in-requires-clause-room c =
    let code = c.args.code.now in
    let p = c.args.self.now in
    let h = c.requires.at_work in
    let outs = c.requires.piece.0 in
    let e = c.requires.piece.1 in
    let d = c.index-body.result.now in
    let there = read_op code p h c.args.op c.args.actuals outs e d c.index-body.ensures in
    few_handed code p h c.args.op c.args.actuals outs e d there c.deref.result.now c.deref.ensures.value c.new-values.result c.new-values.ensures

pub hand_in-requires-clause-there : goal.hand_in-requires-clause-there
hand_in-requires-clause-there c =
    let code = c.args.code.now in
    let p = c.args.self.now in
    let h = c.requires.at_work in
    let outs = c.requires.piece.0 in
    let e = c.requires.piece.1 in
    let d = c.index-body.result.now in
    let there = read_op code p h c.args.op c.args.actuals outs e d c.index-body.ensures in
    values_at code p h c.args.op c.args.actuals outs e d there c.deref.result.now c.deref.ensures.value

pub enter-requires : goal.enter-requires
enter-requires c =
    let le = long_here c.args.code.now c.args.self.now.stack c.requires.at_work.stacked in
    omega (arith, le, c.size-away.ensures)

pub push-requires : goal.push-requires
push-requires c = frame_fits c.args.code.now c.args.self.now.stack c.requires.at_work.stacked

pub lend-requires : goal.lend-requires
lend-requires c =
    let code = c.args.code.now in
    let p = c.args.self.now in
    let h = c.requires.at_work in
    let outs = c.requires.piece.0 in
    let e = c.requires.piece.1 in
    let d = c.index-body.result.now in
    let there = read_op code p h c.args.op c.args.actuals outs e d c.index-body.ensures in
    let names = c.requires.lent _ (owner_there code c.args.op d there) in
    lent_fits code p h c.args.op c.args.actuals outs e d there c.args.lent.now names c.size-away.result c.size-away.ensures c.enter.new.self.here
    c.enter.ensures.here

pub open_data-requires-clause-room : goal.open_data-requires-clause-room
open_data-requires-clause-room c =
    let code = c.args.code.now in
    let p = c.args.self.now in
    let h = c.requires.at_work in
    let outs = c.requires.piece.0 in
    let e = c.requires.piece.1 in
    let d = c.index-body.result.now in
    let there = read_op code p h c.args.op c.args.actuals outs e d c.index-body.ensures in
    let names = c.requires.lent _ (owner_there code c.args.op d there) in
    locals_fit code p h c.args.op c.args.actuals outs e d there c.args.lent.now names c.size-away.result c.size-away.ensures c.enter.new.self.here
    c.enter.ensures.here
    c.deref-2.result.now c.deref-2.ensures.value c.lend.new.slots.here c.lend.ensures.len c.len.result
    (omega (arith, c.len.ensures, ap length c.deref-2.ensures.value, d.op.now.locals.ok.0))

pub open_params-requires-clause-room : goal.open_params-requires-clause-room
open_params-requires-clause-room c =
    let code = c.args.code.now in
    let p = c.args.self.now in
    let h = c.requires.at_work in
    let outs = c.requires.piece.0 in
    let e = c.requires.piece.1 in
    let d = c.index-body.result.now in
    let there = read_op code p h c.args.op c.args.actuals outs e d c.index-body.ensures in
    let names = c.requires.lent _ (owner_there code c.args.op d there) in
    params_fit code p h c.args.op c.args.actuals outs e d there c.args.lent.now names c.size-away.result c.size-away.ensures c.enter.new.self.here
    c.enter.ensures.here
    c.deref-2.result.now c.deref-2.ensures.value c.open_data.new.slots.here (c.open_data.ensures.len ∙ c.lend.ensures.len) c.deref-3.result.now
    c.deref-3.ensures.value c.len.result c.len-2.result (omega (arith, c.len.ensures, ap length c.deref-2.ensures.value, d.op.now.locals.ok.0))
    (omega (arith, c.len-2.ensures, ap length c.deref-3.ensures.value, d.op.now.sig.params.ok.0))

pub go_to-requires-clause-stacked : goal.go_to-requires-clause-stacked
go_to-requires-clause-stacked c =
    let code = c.args.code.now in
    let p = c.args.self.now in
    let h = c.requires.at_work in
    let outs = c.requires.piece.0 in
    let e = c.requires.piece.1 in
    let d = c.index-body.result.now in
    let there = read_op code p h c.args.op c.args.actuals outs e d c.index-body.ensures in
    let starts = read_start code p h c.args.op c.args.actuals outs e c.index-start.result.now c.index-start.ensures in
    let away = c.open_params.ensures.away ∙ c.open_data.ensures.away ∙ c.lend.ensures.away ∙ c.enter.ensures.away in
    let long = c.open_params.ensures.len ∙ c.open_data.ensures.len ∙ c.lend.ensures.len ∙ ap length c.enter.ensures.here in
    inside_stacked code p h c.args.op c.args.actuals outs e d there c.index-start.result.now starts c.size-away.result c.size-away.ensures
    c.open_params.new.slots c.push.new.self away long c.push.ensures.items c.push.ensures.room

pub go_to-requires-clause-amid : goal.go_to-requires-clause-amid
go_to-requires-clause-amid c =
    let code = c.args.code.now in
    let p = c.args.self.now in
    let h = c.requires.at_work in
    let outs = c.requires.piece.0 in
    let e = c.requires.piece.1 in
    let d = c.index-body.result.now in
    let there = read_op code p h c.args.op c.args.actuals outs e d c.index-body.ensures in
    let starts = read_start code p h c.args.op c.args.actuals outs e c.index-start.result.now c.index-start.ensures in
    let away = c.open_params.ensures.away ∙ c.open_data.ensures.away ∙ c.lend.ensures.away ∙ c.enter.ensures.away in
    let long = c.open_params.ensures.len ∙ c.open_data.ensures.len ∙ c.lend.ensures.len ∙ ap length c.enter.ensures.here in
    inside_amid code p h c.args.op c.args.actuals outs e d there c.index-start.result.now starts c.size-away.result c.size-away.ensures
    c.open_params.new.slots c.push.new.self away long c.push.ensures.items c.push.ensures.room

pub returns : goal.returns
returns c =
    let code = c.args.code.now in
    let p = c.args.self.now in
    let h = c.requires.at_work in
    let outs = c.requires.piece.0 in
    let e = c.requires.piece.1 in
    let d = c.index-body.result.now in
    let there = read_op code p h c.args.op c.args.actuals outs e d c.index-body.ensures in
    let names = c.requires.lent _ (owner_there code c.args.op d there) in
    let starts = read_start code p h c.args.op c.args.actuals outs e c.index-start.result.now c.index-start.ensures in
    let away = c.open_params.ensures.away ∙ c.open_data.ensures.away ∙ c.lend.ensures.away ∙ c.enter.ensures.away in
    let long = c.open_params.ensures.len ∙ c.open_data.ensures.len ∙ c.lend.ensures.len ∙ ap length c.enter.ensures.here in
    let hand = values_handed code p h c.args.op c.args.actuals outs e d there c.deref.result.now c.deref.ensures.value c.new-values.result
    c.hand_in.new.values p.stack.slots.here c.new-values.ensures refl c.hand_in.ensures in
    let vars = opened_all code p h c.args.op c.args.actuals outs e d there c.args.lent.now names c.size-away.result c.size-away.ensures
    c.enter.new.self.here
    c.enter.ensures.here c.deref-2.result.now c.deref-2.ensures.value c.open_params.new.slots.here
    (c.open_params.ensures.len ∙ c.open_data.ensures.len ∙ c.lend.ensures.len) c.deref-3.result.now c.deref-3.ensures.value c.hand_in.new.values
    c.as_slice.result.now c.lend.new.slots.here c.open_data.new.slots.here c.open_params.new.slots.here c.len.result c.len-2.result
    (omega (arith, c.len.ensures, ap length c.deref-2.ensures.value, d.op.now.locals.ok.0))
    (omega (arith, c.len-2.ensures, ap length c.deref-3.ensures.value, d.op.now.sig.params.ok.0))
    c.as_slice.ensures.values c.lend.ensures.vars c.open_data.ensures.vars c.open_params.ensures.vars in
    calls code p h c.args.op c.args.actuals outs e d there c.index-start.result.now starts c.size-away.result c.size-away.ensures
    c.open_params.new.slots c.push.new.self away long c.push.ensures.items c.push.ensures.room
    c.hand_in.new.values _ hand vars c.go_to.new.self c.go_to.ensures
