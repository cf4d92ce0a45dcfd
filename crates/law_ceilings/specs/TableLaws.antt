-- What a table of a program's tasks gives on the processor: runs without a stop at a ceiling, and blocking within the rows.
-- Blocking under immediate ceilings is that of Sha, Rajkumar and Lehoczky (1990), with the rows of Audsley et al. (1993).
use Rattle.std.specs.Prelude.{◌≡◌, ◌≤◌, ℕ, List, Some, slice_get}
use Rattle.ada_tree.specs.Programs.{Program}
use Rattle.ada_tree.specs.Rules.{MeetsRules}
use Rattle.arrivals_tree.specs.Arriving.{Arrivals}
use Rattle.rt_response.specs.declared.rows.ThreadRow.{ThreadRow}
use Rattle.trace_tree.specs.declared.event.Event.{Event}
use Rattle.machine.specs.Systems.{system}
use Rattle.machine.specs.States.{Use}
use Rattle.machine.specs.Meanings.{Meaning, run, start}
use Rattle.guarantee.specs.Events.{named}
use Rattle.guarantee.specs.MachineLaw.{NeverStops}
use Rattle.guarantee.specs.ResponseLaw.{Ranked, AreTabled}
use Rattle.law_ceilings.specs.Limits.{IsPendingThrough, others}

-- no run of a program with a table has a stop
abbrev pub TabledRunsGoOn : Type 0
TabledRunsGoOn =
    (p : Program) (ts : List Ranked) (rows : List ThreadRow) (a : Arrivals) (trace : List Event)
    → MeetsRules p → AreTabled p ts rows → Meaning p a trace → NeverStops (named p trace)

-- while a tabled task's level is pending, lower tasks use at most its row's blocking
abbrev pub BlockingWithinRows : Type 0
BlockingWithinRows =
    (p : Program) (ts : List Ranked) (rows : List ThreadRow) (a : Arrivals) (i : ℕ) (t : Ranked) (row : ThreadRow) (m n : ℕ)
    → MeetsRules p → AreTabled p ts rows → slice_get ts i ≡ Some t → slice_get rows i ≡ Some row
    → (run (system p a) m (start p a)).0.phase ≡ Use → IsPendingThrough (system p a) t.priority n (run (system p a) m (start p a)).0
    → others (system p a) t.priority n (run (system p a) m (start p a)).0 ≤ row.block
