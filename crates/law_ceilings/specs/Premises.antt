-- What exclusion needs of a system: calls of protected objects in no ring, exits inside loops, ceilings of control structures of at least the
-- priority of their tasks, units that differ, and arrivals for tasks alone that no unit requests.
use Rattle.std.specs.Prelude.{◌≡◌, ◌≤◌, ◌<◌, ℕ, Bool, true, false, List, slice_get, Some, ⊤}
use Rattle.seq_tree.specs.Names.{Name}
use Rattle.seq_tree.specs.Lists.{Each}
use Rattle.arrivals_tree.specs.declared.arrivals.Arrival.{Arrival}
use Rattle.machine.specs.Systems.{System, TaskUnit, ProtectedUnit, ReleasePattern, Periodic, Requested, CallTarget, Plain, Protected, Request}
use Rattle.machine.specs.Systems.{Unknown, callee}
use Rattle.law_ceilings.specs.Bodies.{BlockFits}

-- calls that are made somewhere, with ranks: a call of a protected object has at least the rank of the object
pub record Ranking : Type 0 where
  pub made : Name → Name → Bool
  pub rank : Name → Name → ℕ
  pub object_rank : ℕ → ℕ

-- a call that is made, of a rank at most this
abbrev pub IsMadeWithin : Ranking → ℕ → Name → Name → Type 0
IsMadeWithin r n unit op = (r.made unit op ≡ true) × (r.rank unit op ≤ n)

-- a call that is made, of a rank below this
abbrev pub IsMadeBelow : Ranking → ℕ → Name → Name → Type 0
IsMadeBelow r n unit op = (r.made unit op ≡ true) × (r.rank unit op < n)

-- an arrival that is not for this task
abbrev pub IsElsewhere : System → ℕ → Arrival → Type 0
IsElsewhere y k a = (t : TaskUnit) → slice_get y.threads k ≡ Some t → t.unit ≡ a.task → ⊥

-- what a made call of this rank leads to: passive bodies call at most at its rank, protected bodies below that of their object, and
-- a task that is requested gets no arrivals
abbrev pub FallsTo : System → List Arrival → Ranking → ℕ → CallTarget → Type 0
FallsTo y as' r n (Plain o) = BlockFits (IsMadeWithin r n) false o.block
FallsTo y as' r n (Protected object op g o) = (r.object_rank object ≤ n) × BlockFits (IsMadeBelow r (r.object_rank object)) false o.block
FallsTo y as' r n (Request task) = Each (IsElsewhere y task) as'
FallsTo y as' r n Unknown = ⊤

-- a task's control structure has a ceiling of at least its priority
abbrev pub IsCovered : ℕ → ReleasePattern → Type 0
IsCovered priority (Periodic offset period) = ⊤
IsCovered priority (Requested op ceiling separation jitter external) = priority ≤ ceiling

-- what exclusion needs of a system under arrivals
pub record MayExclude (y : System) (as' : List Arrival) : Type 0 where
  pub ranking : Ranking
  pub tasks : (i : ℕ) (t : TaskUnit) → slice_get y.threads i ≡ Some t → BlockFits (λ unit op. ranking.made unit op ≡ true) false t.block
  pub calls : (unit op : Name) → ranking.made unit op ≡ true → FallsTo y as' ranking (ranking.rank unit op) (callee y unit op)
  pub covered : (i : ℕ) (t : TaskUnit) → slice_get y.threads i ≡ Some t → IsCovered t.priority t.timing
  pub objects : (i j : ℕ) (g h : ProtectedUnit) → slice_get y.objects i ≡ Some g → slice_get y.objects j ≡ Some h → g.unit ≡ h.unit → i ≡ j
  pub units : (i j : ℕ) (t u : TaskUnit) → slice_get y.threads i ≡ Some t → slice_get y.threads j ≡ Some u → t.unit ≡ u.unit → i ≡ j
