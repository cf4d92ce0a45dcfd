use Rattle.std.proofs.Common.{◌≡◌, map, drop}
use Rattle.std.specs.Prelude.{filter_map}
use Rattle.ods_tree.specs.Trees.{design_of}
use Rattle.ods_calls.specs.Reaching.{thread_of}
use Rattle.ods_calls.specs.Requested.{source_fault}
use Rattle.ods_calls.proofs.sources.Shown.all_right.Given as goal

-- it is up to the threads that are left
abbrev pub invariant-threads : goal.invariant-threads
invariant-threads l =
    filter_map (source_fault (design_of l.self.starts.links.now.design.now)) (map thread_of (drop l.thread-index l.self.threads.items))
    ≡ filter_map (source_fault (design_of l.self.starts.links.now.design.now)) (map thread_of l.self.threads.items)
