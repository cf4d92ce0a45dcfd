-- Who uses what threads share, by places; priorities have no part in it.
-- It is what ceilings are found from (Sha, Rajkumar and Lehoczky 1990).
use Rattle.std.specs.Prelude.{ℕ, List, Option, Some, None}
use Rattle.seq_tree.specs.Names.{Name}
use Rattle.ods_tree.specs.Flats.{Timing, Cyclic, Sporadic, Flat}
use Rattle.analysis.specs.Ceilings.{uses_object, calls_from_inside}
use Rattle.rt_order.specs.Numbers.{places_from}

-- the threads that use an object or control structure, and the protected objects that call it
pub record Users : Type 0 where
  pub threads : List ℕ
  pub callers : List ℕ

-- those of an object or control structure
abbrev pub users : Flat → Name → Users
users f name = record { threads = places_from (uses_object name) 0 f.threads; callers = places_from (calls_from_inside name) 0 f.shared }

-- those of a thread's control structure, where it has one
abbrev pub control_users : Flat → Name → Timing → Option Users
control_users f name (Cyclic period offset) = None
control_users f name (Sporadic op separation jitter) = Some (users f name)
