use Rattle.std.proofs.Common.{◌≡◌, drop, filter_map, map}
use Rattle.ods_tree.specs.Trees.{flat_of, thread_of}
use Rattle.ods_index.specs.Judging.{head_of}
use Rattle.background.specs.Fronts.{request_fault, slow_requests}
use Rattle.background.proofs.requests.first_request.Given as goal

-- the first is that of the threads that are left
abbrev pub invariant-threads : goal.invariant-threads
invariant-threads l =
    head_of (filter_map (request_fault (flat_of l.flat)) (map thread_of (drop l.place l.flat.threads.items)))
    ≡ head_of (slow_requests (flat_of l.flat))
