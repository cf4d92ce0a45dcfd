-- A pass over a trace: the events so far, and what is kept of them.
-- What is kept tells of each part what it asks of the events that follow.
use Rattle.std.specs.Prelude.{◌≡◌, ℕ, ◌+◌, ◌≤◌, List, ◌++◌, length, map, option_map, Option, Some, None}
use Rattle.seq_tree.specs.Lists.{Each}
use Rattle.ada_tree.specs.Programs.{Program}
use Rattle.arrivals_tree.specs.declared.arrivals.Arrival as code
use Rattle.trace_tree.specs.Lines.{lines}
use Rattle.trace_tree.specs.Placed.{IsUnit}
use Rattle.trace_tree.specs.declared.event.Event as machine
use Rattle.guarantee.specs.Events.{Event, named}
use Rattle.guarantee.specs.Software.{program_software}
use Rattle.law_traces.specs.Told.{IsEvent}
use Rattle.law_traces.specs.Checks.{in_order, are_told}
use Rattle.trace_checks.specs.Timing.{in_order_by}
use Rattle.trace_checks.specs.Cycles.{first_release}
use Rattle.trace_checks.specs.Serving.{nothing_waits, serving_of}
use Rattle.trace_checks.specs.Arriving.{named_arrival, arrived_by}
use Rattle.trace_checks.specs.First.{first_failing, is_periodic_by, is_requested_by}
use Rattle.trace_checks.specs.declared.parts.Parts.{Parts}

-- arrivals of units
abbrev pub AreOfUnits : Program → Option (List code.Arrival) → Type 0
AreOfUnits p None = Unit {0}
AreOfUnits p (Some due) = Each (λ a. IsUnit p a.task) due

-- what is kept of these events
pub record Stands (p : Program) (until : ℕ) (items : List code.Arrival) (before : List Event) (s : Parts) : Type 0 where
  pub times : (told : List Event)
      → in_order_by (program_software p).tasks until s.times told ≡ in_order (program_software p).tasks until 0 (before ++ told)
  pub cyclic : (told : List Event) → first_failing (is_periodic_by until) p.units s.nexts.items told
      ≡ first_failing (is_periodic_by until) p.units (map (λ u. first_release u.form) p.units) (before ++ told)
  pub arrivals : (told : List Event) → arrived_by p until (option_map (λ r. r.now) s.due) told
      ≡ are_told until (map (named_arrival p) items) (before ++ told)
  pub requests : (told : List Event) → first_failing is_requested_by p.units (map serving_of s.waiting.items) told
      ≡ first_failing is_requested_by p.units (map (λ u. nothing_waits) p.units) (before ++ told)
  pub nexts : length s.nexts.items ≡ length p.units
  pub waiting : length s.waiting.items ≡ length p.units
  pub units : AreOfUnits p (option_map (λ r. r.now) s.due)

-- a text of which so many lines were read, and these bytes are left
pub record Passing (p : Program) (until : ℕ) (items : List code.Arrival) (text left : List ℕ) (count : ℕ) (s : Parts) : Type 0 where
  pub events : List machine.Event
  pub each : Each (IsEvent p) events
  pub split : text ≡ lines p events ++ left
  pub counted : count ≡ length events
  pub within : count + length left ≤ length text
  pub stands : Stands p until items (named p events) s
