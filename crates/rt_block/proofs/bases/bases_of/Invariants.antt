use Rattle.std.proofs.Common.{◌≡◌, map, take}
use Rattle.ods_tree.specs.Trees.{thread_of}
use Rattle.rt_block.specs.Bases.{base_of}
use Rattle.rt_block.specs.Known.{design}
use Rattle.rt_block.proofs.bases.bases_of.Given as goal

-- what was found so far is of the threads so far
abbrev pub invariant-threads : goal.invariant-threads
invariant-threads l = l.bases.items ≡ map (base_of (design l.operations)) (map thread_of (take l.thread-index l.thread-items))
