use Rattle.std.proofs.Common.{◌≡◌, map, take}
use Rattle.ods_tree.specs.Trees.{flat_of, guarded_of}
use Rattle.rt_order.specs.Kept.{users_of}
use Rattle.rt_order.specs.Users.{users}
use Rattle.rt_order.proofs.users.shared_users.Given as goal

-- what was found so far is of the objects so far
abbrev pub invariant-shared : goal.invariant-shared
invariant-shared l =
    map users_of l.found.items ≡ map (λ g. users (flat_of l.named.flat.now) g.name) (map guarded_of (take l.object-index l.object-items))
