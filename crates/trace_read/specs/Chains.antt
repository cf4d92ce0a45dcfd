-- Tables of the events of a text: where the line of each begins, the next event of its task, the exit from the operation that its task is inside
-- behind it, and of each unit how many events there are up to the last that passes it.
use Rattle.std.specs.Prelude.{◌≡◌, ℕ, suc, ◌<◌, ◌≤◌, nat_lt, List, length, drop, get_or, Option, Some, None}
use Rattle.ada_tree.specs.Programs.{Program}
use Rattle.trace_tree.specs.declared.event.Event as machine
use Rattle.trace_tree.specs.declared.event.Event.TheVariants as event
use Rattle.trace_read.specs.declared.chains.Chain.{Chain}
use Rattle.trace_read.specs.declared.deeds.Part.{Part}
use Rattle.trace_read.specs.declared.deeds.Part.TheVariants.{Other, Plain, Opens, Closes}
use Rattle.trace_read.specs.declared.chains.Links.{Links}
use Rattle.trace_read.specs.Deeds.{first_task, from_exit, from_own, passed_in}
use Rattle.trace_read.specs.Telling.{events_in}

-- where the lines of a text begin, in bytes
pub record AreStarts (p : Program) (text starts : List ℕ) : Type 0 where
  pub few : length starts < 4294967296
  pub count : length starts ≡ length (events_in p text)
  pub within : (k : ℕ) → k < length starts → get_or starts k 0 ≤ length text
  pub start : (k : ℕ) → k < length starts → events_in p (drop (get_or starts k 0) text) ≡ drop k (events_in p text)

-- an index from which on these are the events
abbrev pub Stands : List machine.Event → ℕ → List machine.Event → Type 0
Stands es index these = (index ≤ length es) × (drop index es ≡ these)

-- what is found of a task in the events behind one of its deeds
abbrev pub Behind : Type 0
Behind = ℕ → List machine.Event → List machine.Event

-- the events from the exit on by which a task leaves the operation that it is inside
abbrev pub from_out : Behind
from_out task es = from_exit task es 0

-- a table, from an event on, that leads each deed to what is found behind it
abbrev pub Leads : Behind → List machine.Event → ℕ → List ℕ → Type 0
Leads found es at table =
    (k task : ℕ) → at ≤ k → first_task (drop k es) ≡ Some task → Stands es (get_or table k 0) (found task (drop (suc k) es))

-- a table of tasks, that leads each to what is found of it from an event on
abbrev pub Heads : Behind → List machine.Event → ℕ → List ℕ → Type 0
Heads found es at heads = (task : ℕ) → task < length heads → Stands es (get_or heads task 0) (found task (drop at es))

-- both
pub record IsChain (found : Behind) (es : List machine.Event) (at : ℕ) (c : Chain) : Type 0 where
  pub long : length c.next.items ≡ length es
  pub leads : Leads found es at c.next.items
  pub heads : Heads found es at c.head.items

-- how many events there are up to the last that passes a unit, of those from an event on; 0 where none does
pub record IsLast (unit : ℕ) (es : List machine.Event) (at last : ℕ) : Type 0 where
  pub passed : (k : ℕ) → at ≤ k → passed_in unit (drop k es) ≡ nat_lt k last
  pub none : last ≤ at → last ≡ 0

-- of each unit
abbrev pub AreLasts : List machine.Event → ℕ → List ℕ → Type 0
AreLasts es at lasts = (unit : ℕ) → IsLast unit es at (get_or lasts unit 0)

-- the tables of all events
pub record AreLinks (es : List machine.Event) (l : Links) : Type 0 where
  pub nexts : Leads from_own es 0 l.nexts.items
  pub exits : Leads from_out es 0 l.exits.items
  pub lasts : AreLasts es 0 l.lasts.items
  pub nexts_long : length l.nexts.items ≡ length es
  pub exits_long : length l.exits.items ≡ length es

-- the unit whose operation an event enters or leaves
abbrev pub object_of : machine.Event → Option ℕ
object_of (event.Enter time task unit op values) = Some unit
object_of (event.Leave time task unit op values) = Some unit
object_of (event.Release time task value) = None
object_of (event.Arrive time task value) = None
object_of (event.Request time task target value) = None
object_of (event.Print time task value) = None
object_of (event.End time task used) = None
object_of (event.Stop time task unit priority ceiling) = None
object_of (event.Horizon time) = None

-- the exit from what a task is inside from a deed on, by the table of exits behind it, the exit that is found behind it, and its own index
abbrev pub out_by : Part → List ℕ → (outer at : ℕ) → ℕ
out_by Other table outer at = outer
out_by Plain table outer at = outer
out_by Opens table outer at = get_or table outer outer
out_by Closes table outer at = at

-- what is kept of a text
pub record IsTold (p : Program) (text starts : List ℕ) (l : Links) : Type 0 where
  pub begins : AreStarts p text starts
  pub links : AreLinks (events_in p text) l
