-- What the processor keeps: each ready task that may run before a holder has a base priority above the holder's active priority.
-- Active priorities are those of ISO/IEC 8652:2012, D.1 and D.3; a holder is a task inside a protected object or a control structure.
use Rattle.std.specs.Prelude.{◌≡◌, ◌≢◌, ◌≤◌, ◌<◌, ℕ, List, [], ◌∷◌, length, slice_get, Option, Some, None, ℤ, ◌<ℤ◌, ⊤}
use Rattle.machine.specs.Systems.{System, ReleasePattern, Periodic, Requested}
use Rattle.machine.specs.States.{State, Task, Phase, Effects, Delays, Arriving, Use, Readiness, Asleep, Waiting, Ready, Resource, Held}
use Rattle.law_ceilings.specs.Sections.{Stands, IsNumbered, AreStacked, sections, IsAmong}
use Rattle.law_ceilings.proofs.Shared.Pieces.{closers, Permission, AreFit}

-- whether a task is released at its own times, or at requests
abbrev pub IsPeriodic : ReleasePattern → Type 0
IsPeriodic (Periodic offset period) = ⊤
IsPeriodic (Requested op ceiling separation jitter external) = ⊥

abbrev pub IsRequested : ReleasePattern → Type 0
IsRequested (Periodic offset period) = ⊥
IsRequested (Requested op ceiling separation jitter external) = ⊤

-- a task that is not ready is inside nothing and has nothing left to do; only one that is released at its own times sleeps
abbrev pub IsAtRest : Readiness → Task → Type 0
IsAtRest Ready t = ⊤
IsAtRest Waiting t = (t.inside ≡ []) × (t.pieces ≡ [])
IsAtRest (Asleep until) t = (t.inside ≡ []) × (t.pieces ≡ []) × IsPeriodic t.thread.timing

-- a task by itself
pub record IsSound (y : System) (May : Permission) (i : ℕ) (t : Task) : Type 0 where
  pub written : slice_get y.threads i ≡ Some t.thread
  pub rests : IsAtRest t.readiness t
  pub stacked : AreStacked y t.thread.priority t.active t.inside
  pub closes : closers t.pieces ≡ sections t
  pub fits : AreFit May t.pieces

-- one active priority and order number goes before another
abbrev pub GoesBefore : ℕ → ℤ → ℕ → ℤ → Type 0
GoesBefore active order active' order' = (active' ≤ active) × (active' ≡ active → order <ℤ order')

-- what is kept of tasks and order numbers; the runner is the task whose pieces take effect, where there is one
pub record IsKept (y : System) (May : ℕ → Permission) (runner : Option ℕ) (ts : List Task) (os : List ℤ) : Type 0 where
  pub numbered : length os ≡ length ts
  pub sound : (i : ℕ) (t : Task) → Stands ts i t → IsSound y (May i) i t
  -- a holder goes before each other ready task whose base priority is not above the holder's active priority
  pub leads : (i j : ℕ) (t u : Task) (o p : ℤ) (h : Held) (hs : List Held)
      → Stands ts i t → Stands ts j u → IsNumbered os i o → IsNumbered os j p → i ≢ j
      → t.readiness ≡ Ready → u.inside ≡ h ∷ hs → t.thread.priority ≤ u.active → GoesBefore u.active p t.active o
  -- the runner has a base priority above the active priority of each other holder
  pub runs : (i j : ℕ) (t u : Task) (h : Held) (hs : List Held)
      → runner ≡ Some i → Stands ts i t → Stands ts j u → i ≢ j → u.inside ≡ h ∷ hs → u.active < t.thread.priority
  -- no section is held by two tasks
  pub alone : (i j : ℕ) (t u : Task) (section : Resource)
      → Stands ts i t → Stands ts j u → IsAmong section (sections t) → IsAmong section (sections u) → i ≡ j

-- the runner at a phase
abbrev pub runner : Phase → Option ℕ → Option ℕ
runner Effects ran = ran
runner Delays ran = None
runner Arriving ran = None
runner Use ran = None

-- what is kept of a state
abbrev pub Keeps : System → (ℕ → Permission) → State → Type 0
Keeps y May s = IsKept y May (runner s.phase s.ran) s.tasks s.orders
