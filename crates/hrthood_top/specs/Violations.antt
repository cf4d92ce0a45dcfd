-- How a run of a program ends: at the horizon, or at a ceiling that is violated.
-- A caller above the ceiling is stopped (ISO/IEC 8652:2012, D.3), and the stop is the last of what the run tells.
use Rattle.std.specs.Prelude.{◌≡◌, ℕ, List, [], ◌∷◌, ◌++◌, codes, decimal}
use Rattle.seq_tree.specs.Names.{Name}
use Rattle.seq_tree.specs.Lists.{Each}
use Rattle.ada_tree.specs.Programs.{Program}
use Rattle.trace_tree.specs.declared.event.Event.{Event}
use Rattle.trace_tree.specs.declared.event.Event.TheVariants.{Stop}
use Rattle.trace_tree.specs.Lines.{unit_name}
use Rattle.law_ceilings.specs.Ceilings.{GoesOn}

-- what is told has no stop, so that its run came to the horizon
abbrev pub RunsOut : List Event → Type 0
RunsOut told = Each GoesOn told

-- a ceiling that is violated: at which time, by which task, at which object, with the task's active priority and the ceiling
pub record Violation : Type 0 where
  pub time : ℕ
  pub task : Name
  pub object : Name
  pub priority : ℕ
  pub ceiling : ℕ

-- what is told of a program ends with the stop at this violation
pub record EndsAt (p : Program) (told : List Event) (v : Violation) : Type 0 where
  pub front : List Event
  pub task : ℕ
  pub object : ℕ
  pub last : told ≡ front ++ Stop v.time task object v.priority v.ceiling ∷ []
  pub task_name : v.task ≡ unit_name p task
  pub object_name : v.object ≡ unit_name p object

-- the line that tells a violation
abbrev pub violation_line : Violation → List ℕ
violation_line v =
    codes "refused C1 time " ++ (decimal v.time ++ (codes " task " ++ (v.task ++ (codes " object " ++ (v.object
    ++ (codes " priority " ++ (decimal v.priority ++ (codes " ceiling " ++ (decimal v.ceiling ++ codes "\n")))))))))
