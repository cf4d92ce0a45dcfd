use Rattle.std.proofs.Common.{◌≡◌, ◌≤◌, length, take, drop}
use Rattle.law_traces.specs.Told.{Lacks}
use Rattle.trace_read.proofs.split.split.Given as goal

-- the bytes before those that are left lack this one
abbrev pub invariant-bytes : goal.invariant-bytes
invariant-bytes l = record {
  within : l.len ≤ length l.bytes;
  left : l.left ≡ drop l.len l.bytes;
  lacks : Lacks l.by (take l.len l.bytes);
}

-- the bytes that are left
abbrev pub decreases-bytes : goal.decreases-bytes
decreases-bytes l = length l.left
