use Rattle.std.proofs.Common.{◌≡◌, map, option_map, take}
use Rattle.rt_order.specs.Kept.{users_of}
use Rattle.rt_order.specs.Rises.{control_by}
use Rattle.rt_order.proofs.rises.control_ceilings.Given as goal

-- the ceilings so far are those of the threads so far
abbrev pub invariant-users : goal.invariant-users
invariant-users l = l.ceilings.items ≡ map (control_by l.below l.priorities) (map (option_map users_of) (take l.one-index l.users))
