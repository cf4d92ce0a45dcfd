use Rattle.ods_tree.specs.Trees.{thread_of}
use Rattle.seq_print.proofs.Shared.Chains.{adds-front, adds-same, adds-then, front-longer, front-same, front-then}
use Rattle.ada_gen.proofs.UnitSteps.{thread-text}
use Rattle.ada_gen.proofs.heads.put_thread.Goals as goal

pub returns-in_err-put_name : goal.returns-in_err-put_name
returns-in_err-put_name c =
    adds-front _ _ _ _ c.from_residual.ensures.0
    (front-same _ _ _ _ (thread-text (thread_of c.args.thread.now) c.args.priority c.args.bound.now)
    (front-longer _ _ _ _ c.in_err-put_name.ensures))

pub returns-in_err-put_number : goal.returns-in_err-put_number
returns-in_err-put_number c =
    adds-front _ _ _ _ c.from_residual-in_err-put_number.ensures.0
    (front-same _ _ _ _ (thread-text (thread_of c.args.thread.now) c.args.priority c.args.bound.now)
    (front-then _ _ _ _ _ c.in_ok-put_name.ensures (front-longer _ _ _ _ c.in_err-put_number.ensures)))

pub returns-in_err-put_number-2 : goal.returns-in_err-put_number-2
returns-in_err-put_number-2 c =
    adds-front _ _ _ _ c.from_residual-in_err-put_number-2.ensures.0
    (front-same _ _ _ _ (thread-text (thread_of c.args.thread.now) c.args.priority c.args.bound.now)
    (front-then _ _ _ _ _ c.in_ok-put_name.ensures
    (front-then _ _ _ _ _ c.in_ok-put_number.ensures (front-longer _ _ _ _ c.in_err-put_number-2.ensures))))

pub returns-in_err-put_number-3 : goal.returns-in_err-put_number-3
returns-in_err-put_number-3 c =
    adds-front _ _ _ _ c.from_residual-in_err-put_number-3.ensures.0
    (front-same _ _ _ _ (thread-text (thread_of c.args.thread.now) c.args.priority c.args.bound.now)
    (front-then _ _ _ _ _ c.in_ok-put_name.ensures
    (front-then _ _ _ _ _ c.in_ok-put_number.ensures
    (front-then _ _ _ _ _ c.in_ok-put_number-2.ensures (front-longer _ _ _ _ c.in_err-put_number-3.ensures)))))

pub returns : goal.returns
returns c =
    adds-same _ _ _ _ _ (thread-text (thread_of c.args.thread.now) c.args.priority c.args.bound.now)
    (adds-then _ _ _ _ _ _ c.in_ok-put_name.ensures
    (adds-then _ _ _ _ _ _ c.in_ok-put_number.ensures
    (adds-then _ _ _ _ _ _ c.in_ok-put_number-2.ensures (adds-then _ _ _ _ _ _ c.in_ok-put_number-3.ensures c.put_number-4.ensures))))
