-- What an object is at, as the code holds it.
use Rattle.std.specs.Prelude.{◌≡◌, ℕ, Bool, false, not, List, map, slice_get, option_map, Option, Some, None}
use Rattle.ada_tree.specs.Programs.{Program}
use Rattle.trace_tree.specs.Placed.{IsUnit}
use Rattle.law_trace_places.specs.Places.{guarded_at}
use Rattle.seq_tree.specs.Names.{Name}
use Rattle.seq_tree.specs.Trees.{operation_of}
use Rattle.ods_tree.specs.Flats.{Guarded}
use Rattle.law_traces.specs.Services as services
use Rattle.trace_scripts.specs.declared.objects.Object.{Object}
use Rattle.trace_scripts.specs.declared.objects.Objects.{Objects}
use Rattle.trace_scripts.specs.declared.services.Charge.{Charge}
use Rattle.trace_scripts.specs.declared.services.Service.{Service}
use Rattle.trace_scripts.specs.declared.services.Service.TheVariants.{Free, Inside, Last, Broken}

abbrev pub service_of : Service → services.Service
service_of (Free env) = services.Free env.slots.items
service_of (Inside thread op gives after) = services.Inside thread.now op.now gives.items after.slots.items
service_of Last = services.Last
service_of Broken = services.Broken

abbrev pub charge_of : Charge → ℕ × ℕ
charge_of c = (c.low, c.high)

abbrev pub services_of : Objects → List services.Service
services_of o = map service_of o.states.items

-- the object of this name
abbrev pub object_of : Name → Object → Guarded
object_of name o = record { name = name; vars = o.vars.now; ops = map operation_of o.ops.now }

-- what is said of each object, by the states of units
abbrev pub AreServing : Program → List services.Service → (Guarded → Bool) → Type 0
AreServing p ss serving = (u : ℕ) (g : Guarded) → IsUnit p u → guarded_at p u ≡ Some g
    → option_map services.is_sound (slice_get ss u) ≡ Some (serving g)

-- whether an object is not served, where it is one
abbrev pub broken_by : (Guarded → Bool) → Option Guarded → Bool
broken_by serving None = false
broken_by serving (Some g) = not (serving g)
