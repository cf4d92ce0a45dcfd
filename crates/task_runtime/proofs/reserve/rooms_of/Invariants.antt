use Rattle.task_runtime.specs.Reserving.{AreKnown}
use Rattle.task_runtime.proofs.reserve.rooms_of.Given as goal

-- what is known so far is so
abbrev pub invariant-ops : goal.invariant-ops
invariant-ops l = record {
  known : AreKnown l.fn.code l.rooms.items;
}
