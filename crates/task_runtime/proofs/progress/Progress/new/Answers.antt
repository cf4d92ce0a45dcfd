use Rattle.std.proofs.Common.{arith}
use Rattle.task_runtime.specs.Bodies.{first_body}
use Rattle.task_runtime.specs.Reserving.{extent_in}
use Rattle.task_runtime.proofs.Bounds.{own_names}
use Rattle.task_runtime.proofs.Fresh.{new_at_work}
use Rattle.task_runtime.proofs.Reserves.{own_room}
use Rattle.task_runtime.proofs.progress.Progress.new.Goals as goal

pub new-requires : goal.new-requires
new-requires c = λ small.
    let th = c.args.thread in
    let le = own_room c.args.code.now c.args.room.bodies c.args.room.slots (extent_in (first_body th c.args.start)) (c.requires.room small) in
    let e = own_names th in
    omega (arith, le, e)

pub returns-clause-at_work : goal.returns-clause-at_work
returns-clause-at_work c =
    new_at_work c.args.code.now c.args.thread c.args.start c.args.room c.in_ok-stack.stack c.requires.works c.requires.linked c.requires.start
    c.requires.room c.in_ok-stack.ensures.thread c.in_ok-stack.ensures.start c.in_ok-stack.ensures.none c.in_ok-stack.ensures.frames
    c.in_ok-stack.ensures.count c.in_ok-stack.ensures.room c.in_ok-stack.ensures.small
