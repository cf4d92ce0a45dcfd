use Rattle.std.proofs.Common.{◌≡◌, ◌++◌, length}
use Rattle.seq_tree.specs.Lists.{Each}
use Rattle.explanation.specs.Threads.{HasPeriod}
use Rattle.hrthood_top.specs.Explanations.{delayed_lines}
use Rattle.hrthood_top.proofs.thread_lines.add_delays.Given as goal

-- the lines so far, and those of the threads that are left
abbrev pub invariant-threads : goal.invariant-threads
invariant-threads l = record {
  some : Each HasPeriod l.left;
  same : l.text.items ++ delayed_lines l.threads l.left l.thread l.window ≡ l.initial.text.items ++ delayed_lines l.threads l.above l.thread l.window;
}

abbrev pub decreases-threads : goal.decreases-threads
decreases-threads l = length l.left
