-- The fact that every run keeps of the tasks inside sections, the holders, in words of its own.
-- Dispatching is by active priority, then by order number (ISO/IEC 8652:2012, D.2.3); active priorities are those of D.1 and D.3.
use Rattle.std.specs.Prelude.{◌≡◌, ◌⊎◌, ◌≤◌, ◌<◌, ℕ, List, [], ◌∷◌, ℤ, ◌<ℤ◌, ⊤}
use Rattle.machine.specs.Systems.{System}
use Rattle.machine.specs.States.{State, Task, Ready, Resource, Held}
use Rattle.law_ceilings.specs.Sections.{Stands, IsNumbered, AreStacked, sections, IsAmong, Holds}

-- one that stands before another in the order of dispatch
abbrev pub StandsBefore : ℕ → ℤ → ℕ → ℤ → Type 0
StandsBefore active order active' order' = (active' < active) ⊎ ((active ≡ active') × (order <ℤ order'))

-- sections, each of them once
abbrev pub AreOnce : List Resource → Type 0
AreOnce [] = ⊤
AreOnce (s ∷ ss) = (IsAmong s ss → ⊥) × AreOnce ss

-- a task by itself: its sections' ceilings do not fall, none is below its base priority, and its active priority is that of the last;
-- it is inside none of them twice, and inside none where it isn't ready
pub record IsHolderOnce (y : System) (t : Task) : Type 0 where
  pub stacked : AreStacked y t.thread.priority t.active t.inside
  pub above : t.thread.priority ≤ t.active
  pub plain : t.inside ≡ [] → t.active ≡ t.thread.priority
  pub once : AreOnce (sections t)
  pub rests : (t.readiness ≡ Ready → ⊥) → t.inside ≡ []

-- a state whose holders are safe
pub record AreSafe (y : System) (s : State) : Type 0 where
  -- each ready task that stands before a holder has a base priority above the holder's active priority
  pub before : (i j : ℕ) (t u : Task) (o p : ℤ) (h : Held) (hs : List Held)
      → Stands s.tasks i t → Stands s.tasks j u → IsNumbered s.orders i o → IsNumbered s.orders j p
      → t.readiness ≡ Ready → u.inside ≡ h ∷ hs → StandsBefore t.active o u.active p → u.active < t.thread.priority
  pub each : (i : ℕ) (t : Task) → Stands s.tasks i t → IsHolderOnce y t
  -- no section is held by two tasks
  pub alone : (i j : ℕ) (t u : Task) (section : Resource)
      → Stands s.tasks i t → Stands s.tasks j u → Holds t section → Holds u section → i ≡ j
  -- the order numbers of different ready tasks differ
  pub differ : (i j : ℕ) (t u : Task) (o : ℤ)
      → Stands s.tasks i t → Stands s.tasks j u → t.readiness ≡ Ready → u.readiness ≡ Ready
      → IsNumbered s.orders i o → IsNumbered s.orders j o → i ≡ j
