use Rattle.std.proofs.Common.{arith, length, refl}
use Rattle.std.proofs.lemmas.Option.{slice_get_read}
use Rattle.task_runtime.proofs.Tables.{calls_end, calls_more, calls_none}
use Rattle.task_runtime.proofs.reserve.calls_room.Goals as goal

pub instructions-init : goal.instructions-init
instructions-init c = record { from = omega arith; fits = calls_none c.args.code.now (record { bodies = 0; slots = 0 }) c.args.start }

pub instructions-preserved : goal.instructions-preserved
instructions-preserved c =
    let items = c.args.code.now.code.ins.items in
    let i = c.instructions.invariant in
    let x = c.index-ins.result.now in
    let there = slice_get_read items (length items) c.instructions.at x refl
    (omega (arith, c.instructions-test.true, c.args.code.now.code.ins.ok.0)) c.index-ins.ensures in
    record {
      from = omega (arith, i.from);
      fits = calls_more c.args.code.now c.instructions.room c.in_ok-room.room c.args.start c.instructions.at x i.fits c.in_ok-room.ensures.within there
          (c.in_ok-room.ensures.callee c.args.code.now c.requires);
    }

pub returns-then-ends_body : goal.returns-then-ends_body
returns-then-ends_body c =
    let items = c.args.code.now.code.ins.items in
    let i = c.instructions.invariant in
    let x = c.index-ins.result.now in
    let there = slice_get_read items (length items) c.instructions.at x refl
    (omega (arith, c.instructions-test.true, c.args.code.now.code.ins.ok.0)) c.index-ins.ensures in
    calls_end c.args.code.now c.instructions.room c.args.start c.instructions.at c.ends_body.result x i.fits i.from there c.ends_body.ensures
    c.if-ends_body.true
