use Rattle.std.proofs.Common.{◌≡◌, ◌++◌, ◌+◌, flat_map, length}
use Rattle.std.specs.List.{enumerate_from}
use Rattle.hrthood_top.specs.Explanations.{thread_lines}
use Rattle.hrthood_top.proofs.thread_lines.add_threads.Given as goal

-- the lines so far, and those of the threads that are left
abbrev pub invariant-threads : goal.invariant-threads
invariant-threads l = record {
  long : l.index + length l.left ≡ length l.threads;
  same : l.text.items ++ flat_map (thread_lines l.threads) (enumerate_from l.index l.left)
      ≡ l.initial.text.items ++ flat_map (thread_lines l.threads) (enumerate_from 0 l.threads);
}

abbrev pub decreases-threads : goal.decreases-threads
decreases-threads l = length l.left
