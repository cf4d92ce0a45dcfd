use Rattle.std.proofs.Common.{◌<◌, get_or, length, arith, refl}
use Rattle.ods_tree.specs.Trees.{flat_of, thread_of}
use Rattle.analysis.specs.Trees.{ranks_of}
use Rattle.seq_print.proofs.Shared.Chains.{adds-front}
use Rattle.guarantee.specs.Programs.{thread_comment}
use Rattle.ada_gen.specs.Rows.{row}
use Rattle.ada_gen.proofs.UnitSteps.{comment-at, place-below, row-front, row-step}
use Rattle.ada_gen.proofs.heads.put_rows.Goals as goal

pub rows-preserved : goal.rows-preserved
rows-preserved c =
    let b = get_or c.args.bounds.now c.rows.i (record { jitter = 0; response = 0 }) in
    let h : c.rows.i < length c.args.table.now.thread.items = omega arith in
    let k : c.index.result.now < length c.args.flat.now.threads.items = place-below c.args.table.now.thread.items c.rows.i c.index.result.now _
    h c.index.ensures c.requires.places in
    let p : c.index.result.now < length c.args.order.now.threads.items = omega arith in
    let same = comment-at thread_of
    (λ t. thread_comment t b) c.args.flat.now.threads.items c.args.order.now.threads.items c.index.result.now c.index-in-rows.result.now
    c.index-in-rows-2.result.now k p c.index-in-rows.ensures c.index-in-rows-2.ensures in
    row-step (row (flat_of c.args.flat.now) (ranks_of c.args.order.now)) c.args.table.now.thread.items c.args.bounds.now c.rows.i
    c.index.result.now b _ _ c.rows.into.items c.put_thread.new.into.items _ _
    h c.rows-test.true c.index.ensures refl same c.in_ok-put_thread.ensures c.rows.invariant

pub returns-in_err-put_thread : goal.returns-in_err-put_thread
returns-in_err-put_thread c =
    let b = get_or c.args.bounds.now c.rows.i (record { jitter = 0; response = 0 }) in
    let h : c.rows.i < length c.args.table.now.thread.items = omega arith in
    let k : c.index.result.now < length c.args.flat.now.threads.items = place-below c.args.table.now.thread.items c.rows.i c.index.result.now _
    h c.index.ensures c.requires.places in
    let p : c.index.result.now < length c.args.order.now.threads.items = omega arith in
    let same = comment-at thread_of
    (λ t. thread_comment t b) c.args.flat.now.threads.items c.args.order.now.threads.items c.index.result.now c.index-in-rows.result.now
    c.index-in-rows-2.result.now k p c.index-in-rows.ensures c.index-in-rows-2.ensures in
    adds-front _ _ _ _ c.from_residual.ensures.0
    (row-front (row (flat_of c.args.flat.now) (ranks_of c.args.order.now)) c.args.table.now.thread.items c.args.bounds.now c.rows.i
    c.index.result.now b _ _ c.rows.into.items c.put_thread.new.into.items _ _
    h c.rows-test.true c.index.ensures refl same c.in_err-put_thread.ensures c.rows.invariant)
