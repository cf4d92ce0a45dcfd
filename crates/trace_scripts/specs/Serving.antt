-- What objects are at while a trace is read, by the places of units, and the ticks of each event's way.
use Rattle.std.specs.Prelude.{ℕ, List, [], ◌∷◌, map, slice_get, unwrap_or, Option, Some, None}
use Rattle.seq_tree.specs.Lists.{change}
use Rattle.seq_tree.specs.Names.{Name}
use Rattle.seq_tree.specs.Variables.{written}
use Rattle.ods_tree.specs.Flats.{Guarded}
use Rattle.ada_tree.specs.Programs.{Program}
use Rattle.law_walks.specs.Fit.{MayRun}
use Rattle.trace_tree.specs.declared.event.Event as machine
use Rattle.trace_tree.specs.declared.event.Event.TheVariants as event
use Rattle.trace_tree.specs.Lines.{unit_name}
use Rattle.guarantee.specs.Software.{Software, program_software, leads_to}
use Rattle.guarantee.specs.Events.{op_at}
use Rattle.law_trace_places.specs.Places.{guarded_at, guarded_in}
use Rattle.trace_scripts.specs.Scenes.{AllIn}
use Rattle.law_traces.specs.Entries as entries
use Rattle.law_traces.specs.Services.{Service, Free, Broken, entered_in, left_in, charge_in}

-- blocks that may be walked
abbrev pub MayAll : Program → ℕ → Type 0
MayAll p depth = AllIn (MayRun (leads_to (program_software p)) depth) p

-- an object after an entry and after an exit, where the unit is one
abbrev pub enter_by : Software → ℕ → (thread op : Name) → List ℕ → entries.Entry → Option Guarded → Service → Service
enter_by w depth thread op values x None s = s
enter_by w depth thread op values x (Some g) s = entered_in w depth g thread op values x s

abbrev pub leave_by : (thread op : Name) → List ℕ → Option Guarded → Service → Service
leave_by thread op values None s = s
leave_by thread op values (Some g) s = left_in thread op values s

-- the ticks of an entry
abbrev pub charge_by : Software → ℕ → ℕ → Name → List ℕ → entries.Entry → Option Guarded → Service → ℕ × ℕ
charge_by w depth most op values x None s = (0, most)
charge_by w depth most op values x (Some g) s = charge_in w depth most g op values x s

-- objects after an entry and after an exit, and the ticks of an entry
abbrev pub entered_at : Program → ℕ → (task unit op : ℕ) → List ℕ → entries.Entry → List Service → List Service
entered_at p depth task unit op values x ss =
    change unit (enter_by (program_software p) depth (unit_name p task) (op_at p unit op).op values x (guarded_at p unit)) ss

abbrev pub left_at : Program → (task unit op : ℕ) → List ℕ → List Service → List Service
left_at p task unit op values ss = change unit (leave_by (unit_name p task) (op_at p unit op).op values (guarded_at p unit)) ss

abbrev pub service_at : ℕ → List Service → Service
service_at unit ss = unwrap_or (slice_get ss unit) Broken

abbrev pub charged_at : Program → ℕ → ℕ → (unit op : ℕ) → List ℕ → entries.Entry → List Service → ℕ × ℕ
charged_at p depth most unit op values x ss =
    charge_by (program_software p) depth most (op_at p unit op).op values x (guarded_at p unit) (service_at unit ss)

-- after an event
unfoldable pub objects_with : Program → ℕ → machine.Event → entries.Entry → List Service → List Service
objects_with p depth (event.Enter time task unit op values) x ss =
    entered_at p depth task unit op values x ss
objects_with p depth (event.Leave time task unit op values) x ss = left_at p task unit op values ss
objects_with p depth (event.Release time task value) x ss = ss
objects_with p depth (event.Arrive time task value) x ss = ss
objects_with p depth (event.Request time task target value) x ss = ss
objects_with p depth (event.Print time task value) x ss = ss
objects_with p depth (event.End time task used) x ss = ss
objects_with p depth (event.Stop time task unit priority ceiling) x ss = ss
objects_with p depth (event.Horizon time) x ss = ss

-- the ticks of an event
unfoldable pub charge_with : Program → ℕ → ℕ → machine.Event → entries.Entry → List Service → ℕ × ℕ
charge_with p depth most (event.Enter time task unit op values) x ss = charged_at p depth most unit op values x ss
charge_with p depth most (event.Leave time task unit op values) x ss = (0, 0)
charge_with p depth most (event.Release time task value) x ss = (0, 0)
charge_with p depth most (event.Arrive time task value) x ss = (0, 0)
charge_with p depth most (event.Request time task target value) x ss = (0, 0)
charge_with p depth most (event.Print time task value) x ss = (0, 0)
charge_with p depth most (event.End time task used) x ss = (0, 0)
charge_with p depth most (event.Stop time task unit priority ceiling) x ss = (0, 0)
charge_with p depth most (event.Horizon time) x ss = (0, 0)

-- at first
abbrev pub first_by : Option Guarded → Service
first_by None = Broken
first_by (Some g) = Free (written g.vars)

abbrev pub services_first : Program → List Service
services_first p = map (λ u. first_by (guarded_in u)) p.units

-- after these events, and the ticks of each
unfoldable pub objects_from : Program → ℕ → List machine.Event → List entries.Entry → List Service → List Service
objects_from p depth [] xs ss = ss
objects_from p depth (e ∷ es) [] ss = ss
objects_from p depth (e ∷ es) (x ∷ xs) ss = objects_from p depth es xs (objects_with p depth e x ss)

unfoldable pub charges_by : Program → ℕ → ℕ → List machine.Event → List entries.Entry → List Service → List (ℕ × ℕ)
charges_by p depth most [] xs ss = []
charges_by p depth most (e ∷ es) [] ss = []
charges_by p depth most (e ∷ es) (x ∷ xs) ss = charge_with p depth most e x ss ∷ charges_by p depth most es xs (objects_with p depth e x ss)
