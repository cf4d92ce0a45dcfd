-- The laws of exclusion: what every run of the processor keeps.
-- Immediate ceilings give mutual exclusion on one processor, and blocking by one section at most (Sha, Rajkumar and Lehoczky 1990).
use Rattle.std.specs.Prelude.{◌≡◌, ◌≤◌, ℕ, List}
use Rattle.seq_tree.specs.Lists.{Each}
use Rattle.ada_tree.specs.Programs.{Program}
use Rattle.ada_tree.specs.Rules.{MeetsRules}
use Rattle.arrivals_tree.specs.declared.arrivals.Arrival.{Arrival}
use Rattle.arrivals_tree.specs.Arriving.{Arrivals}
use Rattle.arrivals_tree.specs.Acceptance.{IsAccepted}
use Rattle.trace_tree.specs.declared.event.Event.{Event}
use Rattle.trace_tree.specs.Exclusion.{Exclusive}
use Rattle.machine.specs.Systems.{System, system}
use Rattle.machine.specs.States.{State, Use, opening}
use Rattle.machine.specs.Steps.{step}
use Rattle.machine.specs.Meanings.{Meaning, Rest, run, start}
use Rattle.law_ceilings.specs.Ceilings.{IsCeiled, GoesOn}
use Rattle.law_ceilings.specs.Premises.{MayExclude}
use Rattle.law_ceilings.specs.Sections.{EntersFree, TakesFree}
use Rattle.law_ceilings.specs.Limits.{IsLimited, IsPendingThrough, others}
use Rattle.law_ceilings.specs.Holders.{AreSafe}

-- in every state that a program's run reaches the holders are safe
abbrev pub HoldersAreSafe : ℕ → Type 0
HoldersAreSafe limit = (p : Program) (a : Arrivals) (n : ℕ) → MeetsRules p → IsAccepted limit p a
    → AreSafe (system p a) (run (system p a) n (start p a)).0

-- no protected object of any program is ever inside two operations
abbrev pub ObjectsExclude : ℕ → Type 0
ObjectsExclude limit = (p : Program) (a : Arrivals) (told : List Event) → MeetsRules p → IsAccepted limit p a → Meaning p a told → Exclusive told

-- a step from a state: a section that a task enters was free, and a release takes from a control structure that nobody is inside
abbrev pub IsFreeStep : System → State → Type 0
IsFreeStep y s = EntersFree s.tasks (step y s).0.tasks × Each (TakesFree (step y s).0.tasks) (step y s).1

-- the same of every system whose calls go round in no ring, whatever sections its bodies enter
abbrev pub SystemsExclude : Type 0
SystemsExclude =
    (y : System) (as' : List Arrival) → MayExclude y as'
    → ((told : List Event) → Rest y (opening y as') told → Exclusive told) × ((n : ℕ) → IsFreeStep y (run y n (opening y as')).0)
    × ((n : ℕ) → AreSafe y (run y n (opening y as')).0)

-- no request finds a control structure held, and no task takes a value from a held one
abbrev pub ControlsExclude : ℕ → Type 0
ControlsExclude limit = (p : Program) (a : Arrivals) (n : ℕ) → MeetsRules p → IsAccepted limit p a
    → IsFreeStep (system p a) (run (system p a) n (start p a)).0

-- where all calls are made at ceilings of at least the active priority no run stops at a ceiling
abbrev pub CeilingsHold : Type 0
CeilingsHold = (y : System) (as' : List Arrival) (told : List Event) → IsCeiled y → Rest y (opening y as') told → Each GoesOn told

-- while a level is pending, others use at most the ticks of one section of one lower task
abbrev pub BlocksOnce : Type 0
BlocksOnce =
    (y : System) (level bound : ℕ) (as' : List Arrival) (m n : ℕ) → IsLimited y level bound
    → (run y m (opening y as')).0.phase ≡ Use → IsPendingThrough y level n (run y m (opening y as')).0
    → others y level n (run y m (opening y as')).0 ≤ bound
