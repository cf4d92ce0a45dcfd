use Rattle.task_runtime.proofs.Bounds.{task_bounded}
use Rattle.task_runtime.proofs.reserve.task_room.Goals as goal

pub returns-in-None : goal.returns-in-None
returns-in-None c = λ small.
    task_bounded c.args.code.now c.args.thread c.requires.works c.requires.linked c.args.start c.most_room.result.bodies c.most_room.result.slots
    c.requires.start (c.most_room.ensures.slots small) c.most_room.ensures.bodies
