-- What is known of arrivals that are accepted for a program: the horizon is near, and each is of a unit of the program.
-- The horizon is in ticks.
use Rattle.std.specs.Prelude.{ℕ, ◌≤◌}
use Rattle.seq_tree.specs.Lists.{Each}
use Rattle.ada_tree.specs.Programs.{Program}
use Rattle.arrivals_tree.specs.Acceptance.{IsAccepted}
use Rattle.arrivals_tree.specs.Arriving.{Arrivals}
use Rattle.trace_tree.specs.Placed.{IsUnit}

abbrev pub AcceptedArrivalsAreOfUnits : Type 0
AcceptedArrivalsAreOfUnits =
    (limit : ℕ) (p : Program) (r : Arrivals) → IsAccepted limit p r → (r.until ≤ limit) × Each (λ a. IsUnit p a.task) r.items
