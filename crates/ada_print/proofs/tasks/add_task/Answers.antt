use Rattle.seq_print.proofs.Shared.Chains.{writes-added, writes-same}
use Rattle.ada_print.proofs.Layouts.{task-text}
use Rattle.ada_print.proofs.tasks.add_task.Goals as goal

pub returns : goal.returns
returns c =
    writes-same _ c.args.into.now.items _ _ _ (task-text c.args.priority)
    (writes-added _ _ _ _ c.put_number.ensures)
