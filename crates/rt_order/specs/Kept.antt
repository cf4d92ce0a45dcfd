-- What the code keeps of each object and control structure, without where it lies in memory.
-- An object is used by threads and called by protected objects.
use Rattle.rt_order.specs.Users.{Users}
use Rattle.rt_order.specs.declared.users.Users as kept

-- who uses one
abbrev pub users_of : kept.Users → Users
users_of u = record { threads = u.threads.items; callers = u.callers.items }
