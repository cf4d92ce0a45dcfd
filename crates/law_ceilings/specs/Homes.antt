-- Where the data of a protected object are: with a task that is inside it, or at home, in the store of the object.
-- A task that enters takes them along, and hands them back as it leaves (ISO/IEC 8652:2012, 9.5.1, with the data as variables).
use Rattle.std.specs.Prelude.{◌≡◌, ◌≤◌, ℕ, List, ◌∷◌, map, slice_get, Some}
use Rattle.seq_tree.specs.Variables.{Variables}
use Rattle.seq_tree.specs.declared.tree.Datum.{Datum}
use Rattle.ada_tree.specs.Programs.{Program}
use Rattle.ada_tree.specs.Rules.{MeetsRules}
use Rattle.arrivals_tree.specs.declared.arrivals.Arrival.{Arrival}
use Rattle.arrivals_tree.specs.Arriving.{Arrivals}
use Rattle.arrivals_tree.specs.Acceptance.{IsAccepted}
use Rattle.machine.specs.Systems.{System, ProtectedUnit, system}
use Rattle.machine.specs.Pieces.{Piece}
use Rattle.machine.specs.Deeds.{Enter, done}
use Rattle.machine.specs.States.{State, Task, Effects, Object, opening}
use Rattle.machine.specs.Effects.{ceiling_of}
use Rattle.machine.specs.Meanings.{run, start}
use Rattle.law_ceilings.specs.Premises.{MayExclude}
use Rattle.law_ceilings.specs.Sections.{Stands, IsFree}

-- variables with the names of these data, in their order
abbrev pub AreAsWritten : List Datum → Variables → Type 0
AreAsWritten data' vars = map (λ v. v.0) vars ≡ map (λ d. d.name) data'

-- the store at this place has the data of this object
abbrev pub IsHome : List Variables → ℕ → ProtectedUnit → Type 0
IsHome stores j g = (vars : Variables) × (slice_get stores j ≡ Some vars) × AreAsWritten g.vars vars

-- each object that no task is inside has its data
abbrev pub AreHome : System → State → Type 0
AreHome y s = (j : ℕ) (g : ProtectedUnit) → slice_get y.objects j ≡ Some g → IsFree s.tasks (Object j) → IsHome s.stores j g

-- an object that a task may enter: no task is inside, and its data are at home
abbrev pub IsOpenTo : System → State → ℕ → Type 0
IsOpenTo y s j = IsFree s.tasks (Object j) × (g : ProtectedUnit) × (slice_get y.objects j ≡ Some g) × IsHome s.stores j g

-- where the next piece of the task that used the tick before enters an object, and its active priority is not above the ceiling, it may
abbrev pub EntersHome : System → State → Type 0
EntersHome y s =
    (i j op : ℕ) (values : List ℕ) (t : Task) (p : Piece) (ps : List Piece) → s.phase ≡ Effects → s.ran ≡ Some i → Stands s.tasks i t
    → t.pieces ≡ p ∷ ps → (done y p t.vars ps).act ≡ Enter j op values → t.active ≤ ceiling_of y (Object j) → IsOpenTo y s j

-- in every state that a run reaches under what exclusion needs, data are at home
abbrev pub DataAreHome : Type 0
DataAreHome =
    (y : System) (as' : List Arrival) (n : ℕ) → MayExclude y as'
    → AreHome y (run y n (opening y as')).0 × EntersHome y (run y n (opening y as')).0

-- the same of programs
abbrev pub ProgramDataAreHome : ℕ → Type 0
ProgramDataAreHome limit =
    (p : Program) (a : Arrivals) (n : ℕ) → MeetsRules p → IsAccepted limit p a
    → AreHome (system p a) (run (system p a) n (start p a)).0 × EntersHome (system p a) (run (system p a) n (start p a)).0
