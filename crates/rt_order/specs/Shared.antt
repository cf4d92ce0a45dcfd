-- The users of all that the threads of a flat design share.
-- Each protected object is shared, and the control structure of each sporadic thread.
use Rattle.std.specs.Prelude.{◌≡◌, List, map, Option, option_map}
use Rattle.seq_tree.specs.Names.{Name}
use Rattle.ods_tree.specs.Flats.{Flat}
use Rattle.ods_tree.specs.Trees.{flat_of}
use Rattle.rt_order.specs.ByNames.{places_at}
use Rattle.rt_order.specs.Kept.{users_of}
use Rattle.rt_order.specs.Users.{users, control_users}
use Rattle.rt_order.specs.declared.users.Users as kept
use Rattle.rt_order.specs.declared.users.UsersByName.{UsersByName}

-- who uses what, by names, is as the definitions say of the flat design
abbrev pub AreNamed : UsersByName → Type 0
AreNamed u = (n : Name) → record { threads = places_at u.threads n; callers = places_at u.callers n } ≡ users (flat_of u.flat.now) n

-- who uses the protected objects, by place
abbrev pub AreUsers : Flat → List kept.Users → Type 0
AreUsers f us = map users_of us ≡ map (λ g. users f g.name) f.shared

-- and the control structures, by the place of their thread
abbrev pub AreControlUsers : Flat → List (Option kept.Users) → Type 0
AreControlUsers f us = map (option_map users_of) us ≡ map (λ t. control_users f t.name t.timing) f.threads
