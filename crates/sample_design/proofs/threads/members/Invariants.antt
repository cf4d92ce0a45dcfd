use Rattle.std.proofs.Common.{◌≡◌, ◌++◌, map}
use Rattle.ods_tree.specs.Trees.{tree_of}
use Rattle.sample_design.specs.Samples.{from_to, thread}
use Rattle.sample_design.proofs.threads.members.Given as goal

-- the threads so far, and those that are left
abbrev pub invariant-members : goal.invariant-members
invariant-members l = map tree_of l.found.items ++ map (thread l.n) (from_to l.k l.end) ≡ map (thread l.n) (from_to l.first l.end)
