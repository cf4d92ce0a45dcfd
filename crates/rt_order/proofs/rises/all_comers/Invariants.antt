use Rattle.std.proofs.Common.{◌≡◌, map, take}
use Rattle.rt_order.specs.Comers.{comers_of}
use Rattle.rt_order.specs.Kept.{users_of}
use Rattle.rt_order.specs.Rises.{comers}
use Rattle.rt_order.proofs.rises.all_comers.Given as goal

-- what was found so far is of the users so far
abbrev pub invariant-users : goal.invariant-users
invariant-users l = map comers_of l.found.items ≡ map (comers l.priorities) (map users_of (take l.one-index l.users))
