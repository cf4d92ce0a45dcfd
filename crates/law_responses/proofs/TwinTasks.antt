-- The tasks of a program and the threads of its system: the same in the same places, with names of their own.
use Rattle.std.specs.Prelude.{◌≡◌, ℕ, List, slice_get, Option, Some, option_map, refl}
use Rattle.std.specs.List.{AllZip}
use Rattle.ada_tree.specs.Programs.{Form, Unit, Program, Passive, Shared, Cyclic, Sporadic}
use Rattle.ada_tree.specs.Rules.{MeetsRules}
use Rattle.arrivals_tree.specs.Arriving.{Arrivals, durations}
use Rattle.ods_tree.specs.Walk.{only_if}
use Rattle.ods_tree.specs.Flats as flats
use Rattle.machine.specs.Systems.{TaskUnit, ReleasePattern, Periodic, Requested, thread_by, system}
use Rattle.guarantee.specs.Software.{task_by}
use Rattle.guarantee.specs.ResponseLaw.{Ranked, priority_of, ranked}
use Rattle.law_calls.proofs.Shared.Apart.{units_apart}
use Rattle.law_lists.proofs.Shared.Lists.{zip-first, zip-second, BothMake, made-both}
use Rattle.law_calls.proofs.Shared.UnitNames.{places-apart}

-- the timing of a thread and of a task
abbrev pub SameTiming : ReleasePattern → flats.Timing → Type 0
SameTiming (Periodic offset period) timing = timing ≡ flats.Cyclic period offset
SameTiming (Requested op ceiling separation jitter external) timing = timing ≡ flats.Sporadic op separation (only_if external jitter)

-- a thread and a task that are one
pub record AreTwins (t : TaskUnit) (u : Ranked) : Type 0 where
  pub name : u.task.name ≡ t.name
  pub block : u.task.block ≡ t.block
  pub priority : u.priority ≡ t.priority
  pub timing : SameTiming t.timing u.task.timing

-- the thread and the task of a unit
abbrev thread_of : Arrivals → ℕ × Unit → Option TaskUnit
thread_of a u = thread_by (durations a u.0) u.0 u.1.name u.1.form

abbrev ranked_by : Unit → Option Ranked
ranked_by u = option_map (λ t. record { task = t; priority = priority_of u.form }) (task_by u.name u.form)

-- a thread at a place, and the task that is one with it
abbrev pub HasTwin : List Ranked → ℕ → TaskUnit → Type 0
HasTwin us j t = (u : Ranked) × (slice_get us j ≡ Some u) × AreTwins t u

abbrev pub IsTwin : List TaskUnit → ℕ → Ranked → Type 0
IsTwin ts j u = (t : TaskUnit) × (slice_get ts j ≡ Some t) × AreTwins t u

unit-twins : (a : Arrivals) (k : ℕ) (u : Unit) → BothMake AreTwins (thread_of a (k, u)) (ranked_by u)
unit-twins a k u = by u.form
  where
    by : (form : Form) → BothMake AreTwins (thread_by (durations a k) k u.name form)
        (option_map (λ t. let r : Ranked = record { task = t; priority = priority_of form } in r) (task_by u.name form))
    by (Passive ops) = tt
    by (Shared ceiling vars ops) = tt
    by (Cyclic priority offset period vars block) = record { name = refl; block = refl; priority = refl; timing = refl }
    by (Sporadic priority ceiling op separation jitter external vars block) = record { name = refl; block = refl; priority = refl; timing = refl }

twins : (p : Program) (a : Arrivals) → AllZip AreTwins (system p a).threads (ranked p)
twins p a = made-both AreTwins (thread_of a) ranked_by (unit-twins a) 0 p.units

pub twin-of : (p : Program) (a : Arrivals) (j : ℕ) (t : TaskUnit) → slice_get (system p a).threads j ≡ Some t → HasTwin (ranked p) j t
twin-of p a j t e = zip-first AreTwins (system p a).threads (ranked p) j t (twins p a) e

pub thread-of : (p : Program) (a : Arrivals) (j : ℕ) (u : Ranked) → slice_get (ranked p) j ≡ Some u → IsTwin (system p a).threads j u
thread-of p a j u e = zip-second AreTwins (system p a).threads (ranked p) j u (twins p a) e

-- units of different places have different names
pub units-apart : (p : Program) → MeetsRules p → (j k : ℕ) (u v : Unit) → slice_get p.units j ≡ Some u → slice_get p.units k ≡ Some v
    → u.name ≡ v.name → j ≡ k
units-apart p rules = places-apart p.units (units_apart p rules)
