-- The ticks that activations use, as a trace has them at their ends, and their cost in a table.
-- A cost is a worst-case execution time by paths (Joseph and Pandya 1986).
use Rattle.std.specs.Prelude.{◌≡◌, ℕ, ◌≤◌, List, [], ◌∷◌, Some, slice_get, ⊤}
use Rattle.seq_tree.specs.Names.{Name, same_name}
use Rattle.ada_tree.specs.Programs.{Program}
use Rattle.arrivals_tree.specs.Arriving.{Arrivals}
use Rattle.arrivals_tree.specs.Acceptance.{IsAccepted}
use Rattle.machine.specs.Meanings.{Meaning}
use Rattle.trace_tree.specs.declared.event.Event as machine
use Rattle.rt_response.specs.declared.rows.ThreadRow.{ThreadRow}
use Rattle.guarantee.specs.Events.{End, Event, By, named}
use Rattle.guarantee.specs.Bounded.{Either}
use Rattle.guarantee.specs.MachineLaw.{IsReadable}
use Rattle.guarantee.specs.ResponseLaw.{Ranked, AreTabled}

-- each activation of a thread that ends has used at most so many ticks
abbrev pub UsesAtMost : ℕ → Name → List Event → Type 0
UsesAtMost cost thread [] = ⊤
UsesAtMost cost thread (By time task (End used) ∷ told) = Either (same_name task thread) (used ≤ cost) ⊤ × UsesAtMost cost thread told
UsesAtMost cost thread (_ ∷ told) = UsesAtMost cost thread told

-- in every run of a program with a table, each activation of a task uses at most the cost of its row
abbrev pub TasksKeepToCosts : ℕ → Type 0
TasksKeepToCosts limit =
    (p : Program) (ts : List Ranked) (rows : List ThreadRow) (r : Arrivals) (trace : List machine.Event) (k : ℕ) (t : Ranked) (row : ThreadRow)
    → IsReadable p → AreTabled p ts rows → IsAccepted limit p r → Meaning p r trace → slice_get ts k ≡ Some t → slice_get rows k ≡ Some row
    → UsesAtMost row.cost t.task.name (named p trace)
