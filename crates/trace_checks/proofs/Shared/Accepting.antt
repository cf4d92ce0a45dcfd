-- Arrivals that are accepted for a program: their horizon is within the limit, and each is of a unit.
use Rattle.std.proofs.Common.{◌≡◌, ℕ, ◌≤◌, false, List, [], ◌∷◌, ◌++◌, Option, Some, None, refl, sym, arith}
use Rattle.std.specs.Prelude.{nat_lt, slice_get}
use Rattle.std.proofs.lemmas.Option.{none-some, slice_get_within}
use Rattle.seq_tree.specs.Lists.{Each}
use Rattle.seq_tree.specs.Faults.{or_else, fault_if}
use Rattle.ada_tree.specs.Programs.{Unit, Program}
use Rattle.arrivals_tree.specs.declared.arrivals.Arrival.{Arrival}
use Rattle.arrivals_tree.specs.Acceptance.{IsAccepted, Unknown, Far, Falling, works_fault, requests_fault, item_fault, request_fault_at, last_time}
use Rattle.arrivals_tree.specs.Arriving.{Arrivals}
use Rattle.trace_tree.specs.Placed.{IsUnit}
use Rattle.law_lists.proofs.Shared.Facts.{or_else-none, no-fault}

at-least : (a b : ℕ) → nat_lt a b ≡ false → b ≤ a
at-least a b e = grind arith

unit-there : (p : Program) (before : List Arrival) (a : Arrival) → request_fault_at (slice_get p.units a.task) before a ≡ None → IsUnit p a.task
unit-there p before a none = by (slice_get p.units a.task) refl none
  where
    by : (o : Option Unit) → slice_get p.units a.task ≡ o → request_fault_at o before a ≡ None → IsUnit p a.task
    by None at e = absurd (none-some Unknown (sym e))
    by (Some u) at e = slice_get_within p.units a.task u at

of-units : (p : Program) (before items : List Arrival) → requests_fault p before items ≡ None → Each (λ a. IsUnit p a.task) items
of-units p before [] e = tt
of-units p before (a ∷ items) e =
    let one = or_else-none (item_fault p before a) (requests_fault p (before ++ a ∷ []) items) e in
    let two = or_else-none (fault_if (nat_lt a.time (last_time before)) Falling) (request_fault_at (slice_get p.units a.task) before a) one.0 in
    (unit-there p before a two.1, of-units p (before ++ a ∷ []) items one.1)

pub accepted : (limit : ℕ) (p : Program) (r : Arrivals) → IsAccepted limit p r → (r.until ≤ limit) × Each (λ a. IsUnit p a.task) r.items
accepted limit p r h =
    let one = or_else-none (fault_if (nat_lt limit r.until) Far) (or_else (works_fault p r.work) (requests_fault p [] r.items)) h in
    let two = or_else-none (works_fault p r.work) (requests_fault p [] r.items) one.1 in
    (at-least limit r.until (no-fault (nat_lt limit r.until) Far one.0), of-units p [] r.items two.1)
