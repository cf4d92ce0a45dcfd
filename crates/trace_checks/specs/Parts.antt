-- What is kept of the events of a trace so far, and which part is broken first where no event follows.
-- The parts are in the order of the machine's definition.
use Rattle.std.specs.Prelude.{◌≡◌, ℕ, Bool, true, false, List, [], map, option_map, Option, Some, None, Result, Ok, Err, ⊤}
use Rattle.ada_tree.specs.Programs.{Program}
use Rattle.arrivals_tree.specs.declared.arrivals.Arrival as code
use Rattle.trace_tree.specs.declared.event.Event as machine
use Rattle.trace_checks.specs.Timing.{times_after}
use Rattle.trace_checks.specs.Cycles.{first_release, nexts_after}
use Rattle.trace_checks.specs.Serving.{nothing_waits, serving_of, serving_after}
use Rattle.trace_checks.specs.Arriving.{due_behind, is_over}
use Rattle.trace_checks.specs.First.{first_failing, is_periodic_by, is_requested_by}
use Rattle.trace_checks.specs.declared.broken.Broken.{Broken}
use Rattle.trace_checks.specs.declared.broken.Broken.TheVariants.{Line, Times, Cyclic, Arrivals, Requests, NoMemory}
use Rattle.trace_checks.specs.declared.parts.Parts.{Parts}
use Rattle.trace_checks.specs.declared.times.Times as stand
use Rattle.trace_checks.specs.declared.times.Times.TheVariants as standing

-- before the first event
pub record AreFirst (p : Program) (items : List code.Arrival) (s : Parts) : Type 0 where
  pub times : s.times ≡ standing.Running 0
  pub nexts : s.nexts.items ≡ map (λ u. first_release u.form) p.units
  pub due : option_map (λ r. r.now) s.due ≡ Some items
  pub waiting : map serving_of s.waiting.items ≡ map (λ u. nothing_waits) p.units

-- behind one more event
pub record AreAfter (p : Program) (until : ℕ) (s : Parts) (e : machine.Event) (t : Parts) : Type 0 where
  pub times : t.times ≡ times_after p until s.times e
  pub nexts : t.nexts.items ≡ nexts_after p until s.nexts.items e
  pub due : option_map (λ r. r.now) t.due ≡ due_behind until (option_map (λ r. r.now) s.due) e
  pub waiting : map serving_of t.waiting.items ≡ serving_after (map serving_of s.waiting.items) e

-- whether times are in order up to the horizon
abbrev pub has_ended : stand.Times → Bool
has_ended (standing.Running now) = false
has_ended standing.Ended = true
has_ended standing.Broken = false

-- whether all arrivals up to the horizon came
abbrev pub has_all : ℕ → Option (List code.Arrival) → Bool
has_all until None = false
has_all until (Some due) = is_over until due

-- which part is broken first
abbrev pub Judges : Program → ℕ → Parts → Result (Unit {0}) Broken → Type 0
Judges p until s (Ok done) =
    (has_ended s.times ≡ true) × (first_failing (is_periodic_by until) p.units s.nexts.items [] ≡ None)
    × (has_all until (option_map (λ r. r.now) s.due) ≡ true)
    × (first_failing is_requested_by p.units (map serving_of s.waiting.items) [] ≡ None)
Judges p until s (Err (Line line)) = ⊥
Judges p until s (Err Times) = has_ended s.times ≡ false
Judges p until s (Err (Cyclic thread)) =
    (has_ended s.times ≡ true) × (first_failing (is_periodic_by until) p.units s.nexts.items [] ≡ Some thread)
Judges p until s (Err Arrivals) =
    (has_ended s.times ≡ true) × (first_failing (is_periodic_by until) p.units s.nexts.items [] ≡ None)
    × (has_all until (option_map (λ r. r.now) s.due) ≡ false)
Judges p until s (Err (Requests thread)) =
    (has_ended s.times ≡ true) × (first_failing (is_periodic_by until) p.units s.nexts.items [] ≡ None)
    × (has_all until (option_map (λ r. r.now) s.due) ≡ true)
    × (first_failing is_requested_by p.units (map serving_of s.waiting.items) [] ≡ Some thread)
Judges p until s (Err NoMemory) = ⊤
