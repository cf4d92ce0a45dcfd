use Rattle.std.proofs.Common.{◌≡◌, ◌-◌, vec_capacity, vec_len}
use Rattle.task_runtime.specs.Slotted.{with_zeros}
use Rattle.task_runtime.proofs.slots.fill.Given as goal

abbrev pub invariant-slots : goal.invariant-slots
invariant-slots l = record {
  zeros : with_zeros l.count l.written.items ≡ with_zeros l.count l.fn.written.items;
  room : vec_capacity l.written ≡ vec_capacity l.fn.written;
}

abbrev pub decreases-slots : goal.decreases-slots
decreases-slots l = l.count - vec_len l.written
