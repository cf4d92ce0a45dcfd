-- What the processor keeps of sections under the premises of exclusion: each is there and is held once.
use Rattle.std.specs.Prelude.{◌≡◌, ℕ, List, [], ◌∷◌, drop, slice_get, Some, ⊤}
use Rattle.seq_tree.specs.Lists.{Each}
use Rattle.arrivals_tree.specs.declared.arrivals.Arrival.{Arrival}
use Rattle.machine.specs.Systems.{System, TaskUnit, ProtectedUnit}
use Rattle.machine.specs.States.{State, Task, Resource, Object, Control}
use Rattle.law_ceilings.specs.Premises.{Ranking, IsElsewhere}
use Rattle.law_ceilings.specs.Sections.{Stands, sections, IsAmong}
use Rattle.law_ceilings.proofs.Shared.Permissions.{AllFall}
use Rattle.law_ceilings.proofs.Shared.Kept.{IsRequested, Keeps}

-- a section that is there: an object, or the control structure of a task that is released at requests and gets no arrivals
abbrev pub IsThere : System → List Arrival → Resource → Type 0
IsThere y as' (Object object) = (g : ProtectedUnit) × (slice_get y.objects object ≡ Some g)
IsThere y as' (Control task) = (t : TaskUnit) × (slice_get y.threads task ≡ Some t) × IsRequested t.timing × Each (IsElsewhere y task) as'

-- sections that are there, each of them once
abbrev pub AreHeld : System → List Arrival → List Resource → Type 0
AreHeld y as' [] = ⊤
AreHeld y as' (s ∷ ss) = (IsAmong s ss → ⊥) × IsThere y as' s × AreHeld y as' ss

-- what is kept of a state under arrivals, of which some are left
pub record Excludes (y : System) (as' : List Arrival) (r : Ranking) (s : State) : Type 0 where
  pub keeps : Keeps y (AllFall r) s
  pub held : (i : ℕ) (t : Task) → Stands s.tasks i t → AreHeld y as' (sections t)
  pub past : ℕ
  pub left : s.arrivals ≡ drop past as'
