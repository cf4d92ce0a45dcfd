use Rattle.std.proofs.Common.{◌≡◌, map, option_map, take}
use Rattle.ods_tree.specs.Trees.{flat_of, thread_of}
use Rattle.rt_order.specs.Kept.{users_of}
use Rattle.rt_order.specs.Users.{control_users}
use Rattle.rt_order.proofs.users.thread_users.Given as goal

-- what was found so far is of the threads so far
abbrev pub invariant-threads : goal.invariant-threads
invariant-threads l =
    map (option_map users_of) l.found.items
    ≡ map (λ t. control_users (flat_of l.named.flat.now) t.name t.timing) (map thread_of (take l.thread-index l.thread-items))
