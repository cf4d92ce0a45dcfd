use Rattle.std.proofs.Common.{length, ◌≡◌, false, ◌+◌, ◌≤◌, cond}
use Rattle.seq_tree.specs.Parts.{is_part}
use Rattle.seq_tree.proofs.Shared.Longest.{from_here}
use Rattle.seq_tree.proofs.runs.run_len.Given as goal

-- what is left of the run is the run of what is left
abbrev pub invariant-run : goal.invariant-run
invariant-run l = record {
  within : l.len + cond l.under 1 0 + length l.rest ≤ length l.bytes;
  run : from_here (is_part l.part) false l.bytes ≡ l.len + from_here (is_part l.part) l.under l.rest;
}

abbrev pub decreases-run : goal.decreases-run
decreases-run l = length l.rest
