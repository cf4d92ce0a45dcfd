-- The end-to-end guarantee: the text of a design reads as a program whose every run is allowed by the design and within its bounds.
-- It holds for all arrivals that keep the separations of the design.
use Rattle.std.specs.Prelude.{◌≡◌, ℕ, List, map, filter_map, Option, Some, None}
use Rattle.seq_tree.specs.Names.{Name}
use Rattle.seq_tree.specs.Operations.{Signature}
use Rattle.ods_tree.specs.Designs.{Design}
use Rattle.ods_tree.specs.Flats.{Timing, Cyclic, Sporadic}
use Rattle.ods_tree.specs.Flattening.{flat}
use Rattle.ada_tree.specs.Programs.{Program}
use Rattle.ada_tree.specs.Reading.{Accepts}
use Rattle.arrivals_tree.specs.Arriving as places
use Rattle.trace_tree.specs.declared.event.Event as machine
use Rattle.machine.specs.Meanings.{Meaning}
use Rattle.rt_response.specs.declared.rows.Bound.{Bound}
use Rattle.guarantee.specs.Software.{Task, software, program_software}
use Rattle.guarantee.specs.Events.{named}
use Rattle.guarantee.specs.Arrivals.{named_arrivals, KeepsSeparations}
use Rattle.guarantee.specs.Allowed.{Allows}
use Rattle.guarantee.specs.Bounded.{IsBounded}
use Rattle.guarantee.specs.Programs.{responses}

-- a task that is requested from outside
pub record External : Type 0 where
  pub name : Name
  pub op : Signature
  pub separation : ℕ
  pub jitter : ℕ

-- what is requested from outside, where a timing says so
abbrev pub external_by : Name → Timing → Option External
external_by name (Cyclic period offset) = None
external_by name (Sporadic op separation None) = None
external_by name (Sporadic op separation (Some jitter)) = Some (record { name = name; op = op; separation = separation; jitter = jitter })

-- the tasks that are requested from outside
abbrev pub externals : List Task → List External
externals ts = filter_map (λ t. external_by t.name t.timing) ts

-- a run of a program that a design allows, within bounds
pub record IsRight (x : Design) (v : List Bound) (p : Program) (r : places.Arrivals) : Type 0 where
  pub trace : List machine.Event
  pub means : Meaning p r trace
  pub allowed : Allows x (named_arrivals p r) (named p trace)
  pub bounded : IsBounded (responses (flat x) v) r.until (named p trace)

-- a text that is guaranteed for a design and bounds, up to the farthest horizon allowed
pub record Guaranteed (limit : ℕ) (x : Design) (text : List ℕ) (v : List Bound) : Type 0 where
  pub program : Program
  pub reads : Accepts text program
  pub tasks : map (λ t. t.name) (program_software program).tasks ≡ map (λ t. t.name) (software x).tasks
  pub external : externals (program_software program).tasks ≡ externals (software x).tasks
  pub runs : (r : places.Arrivals) → KeepsSeparations limit x (named_arrivals program r) → IsRight x v program r
