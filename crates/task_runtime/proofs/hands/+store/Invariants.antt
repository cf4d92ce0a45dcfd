use Rattle.task_runtime.proofs.hands.+store.Given as goal

abbrev pub decreases-store : goal.decreases-store
decreases-store l = l.count
