-- The operations of a protected object, one passage at a time: its data between them, the operation that is entered, or that it is broken.
use Rattle.std.specs.Prelude.{ℕ, Bool, true, false, ◌&&◌, List, [], ◌∷◌, ◌++◌, Option, Some, None, bytes_eq, if◌then◌else◌}
use Rattle.seq_tree.specs.Names.{Name, same_name}
use Rattle.seq_tree.specs.Operations.{Operation, out_names}
use Rattle.seq_tree.specs.Variables.{Variables, kept, reads, opened}
use Rattle.seq_tree.specs.Runs.{Path}
use Rattle.ods_tree.specs.Flats.{Guarded}
use Rattle.guarantee.specs.Software.{Software}
use Rattle.guarantee.specs.Events.{Enter, Leave, Event, By}
use Rattle.law_traces.specs.Checks.{op_named, object_named, run_along, begins_along}
use Rattle.law_traces.specs.Entries.{Shown, Entry}

-- what an object is at
pub data Service : Type 0 where
  -- no operation is entered, and the data are these
  Free : (data' : Variables) → Service
  -- a thread is inside an operation, that hands these results out and leaves these data
  Inside : (thread op : Name) (gives : List ℕ) (after : Variables) → Service
  -- a thread is inside an operation, that is never left
  Last : Service
  -- its operations are not run one by one
  Broken : Service

-- whether its operations are run one by one so far
abbrev pub is_sound : Service → Bool
is_sound (Free data') = true
is_sound (Inside thread op gives after) = true
is_sound Last = true
is_sound Broken = false

-- an operation that is entered and left, by the run that its script shows
abbrev pub inside_by : Guarded → (thread op : Name) → Operation → Option Path → Service
inside_by g thread op o None = Broken
inside_by g thread op o (Some p) = Inside thread op (reads (out_names o.sig.params) p.vars) (kept g.vars p.vars)

-- an operation that is entered and never left
abbrev pub last_by : Bool → Service
last_by true = Last
last_by false = Broken

-- an operation that is entered, by whether the object is passed again
abbrev pub ran_by : Software → ℕ → Guarded → (thread op : Name) → Operation → Variables → Shown → Bool → Service
ran_by w depth g thread op o vars script true = inside_by g thread op o (run_along w depth o.block vars script)
ran_by w depth g thread op o vars script false = last_by (begins_along w depth o.block vars script)

-- an operation that is entered, where the object has it
abbrev pub entered_by : Software → ℕ → Guarded → (thread op : Name) → List ℕ → Variables → Entry → Option Operation → Service
entered_by w depth g thread op values data' e None = Broken
entered_by w depth g thread op values data' e (Some o) = ran_by w depth g thread op o (opened o values ++ data') e.script e.again

-- an entry
abbrev pub entered_in : Software → ℕ → Guarded → (thread op : Name) → List ℕ → Entry → Service → Service
entered_in w depth g thread op values e (Free data') = entered_by w depth g thread op values data' e (op_named g op)
entered_in w depth g thread op values e (Inside other same gives after) = Broken
entered_in w depth g thread op values e Last = Broken
entered_in w depth g thread op values e Broken = Broken

-- an exit
abbrev pub left_in : (thread op : Name) → List ℕ → Service → Service
left_in thread op results (Free data') = Broken
left_in thread op results (Inside other same gives after) =
    if same_name other thread && same_name same op && bytes_eq results gives then Free after else Broken
left_in thread op results Last = Broken
left_in thread op results Broken = Broken

-- the fewest and the most ticks of the way through an operation that is entered, by the run that its script shows where it is left
abbrev pub charge_by : ℕ → Bool → Option Path → ℕ × ℕ
charge_by most false p = (0, most)
charge_by most true None = (0, most)
charge_by most true (Some p) = (p.low, p.high)

-- the run of an operation that is entered
abbrev pub run_by_op : Software → ℕ → List ℕ → Variables → Shown → Option Operation → Option Path
run_by_op w depth values data' script None = None
run_by_op w depth values data' script (Some o) = run_along w depth o.block (opened o values ++ data') script

abbrev pub charge_in : Software → ℕ → ℕ → Guarded → Name → List ℕ → Entry → Service → ℕ × ℕ
charge_in w depth most g op values e (Free data') = charge_by most e.again (run_by_op w depth values data' e.script (op_named g op))
charge_in w depth most g op values e (Inside other same gives after) = (0, most)
charge_in w depth most g op values e Last = (0, most)
charge_in w depth most g op values e Broken = (0, most)

-- an object after an event, where the event is one of its passages
abbrev pub served_by : Software → ℕ → Guarded → Event → Entry → Service → Service
served_by w depth g (By time task (Enter name values)) e s = if same_name name.object g.name then entered_in w depth g task name.op values e s else s
served_by w depth g (By time task (Leave name values)) e s = if same_name name.object g.name then left_in task name.op values s else s
served_by w depth g _ e s = s

-- an object after events, with what is known of each
abbrev pub served_from : Software → ℕ → Guarded → List Event → List Entry → Service → Service
served_from w depth g [] es s = s
served_from w depth g (e ∷ later) [] s = s
served_from w depth g (e ∷ later) (x ∷ xs) s = served_from w depth g later xs (served_by w depth g e x s)

-- ALL OBJECTS, each by its name
-- what an object is at after an event
abbrev pub changed_by : Software → ℕ → Event → Entry → Service → Option Guarded → Service
changed_by w depth e x s None = s
changed_by w depth e x s (Some g) = served_by w depth g e x s

-- the ticks of the way through the operation that is entered, by its object
abbrev pub charge_for : Software → ℕ → ℕ → Name → List ℕ → Entry → Service → Option Guarded → ℕ × ℕ
charge_for w depth most op values x s None = (0, most)
charge_for w depth most op values x s (Some g) = charge_in w depth most g op values x s

abbrev pub charge_at : Software → ℕ → ℕ → Event → Entry → (Name → Service) → ℕ × ℕ
charge_at w depth most (By time task (Enter name values)) x st =
    charge_for w depth most name.op values x (st name.object) (object_named w name.object)
charge_at w depth most _ x st = (0, 0)

-- the ticks of each event's way
abbrev pub charges_from : Software → ℕ → ℕ → List Event → List Entry → (Name → Service) → List (ℕ × ℕ)
charges_from w depth most [] es st = []
charges_from w depth most (e ∷ later) [] st = []
charges_from w depth most (e ∷ later) (x ∷ xs) st =
    charge_at w depth most e x st ∷ charges_from w depth most later xs (λ object. changed_by w depth e x (st object) (object_named w object))

-- whether an object of this name is served, where it is one
abbrev pub is_served : (Guarded → Bool) → Option Guarded → Bool
is_served serves None = true
is_served serves (Some g) = serves g
