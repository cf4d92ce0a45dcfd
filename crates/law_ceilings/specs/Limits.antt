-- Blocking: what a level of priority may have to wait for, while one of its tasks is ready at every tick.
-- Under ceilings that is one section of one lower task, on an object whose ceiling reaches the level (Sha, Rajkumar and Lehoczky 1990).
use Rattle.std.specs.Prelude.{◌≡◌, ◌≤◌, ◌<◌, ◌+◌, ◌*◌, ℕ, zero, suc, Bool, true, false, nat_le, List, slice_get, Option, Some, None, if◌then◌else◌, ⊤}
use Rattle.seq_tree.specs.Names.{Name}
use Rattle.seq_tree.specs.Dearest.{cost}
use Rattle.machine.specs.Systems.{System, TaskUnit, CallTarget, Plain, Protected, Request, Unknown, callee}
use Rattle.machine.specs.States.{State, Task, Phase, Effects, Delays, Arriving, Use, Ready, Object, Control}
use Rattle.machine.specs.Effects.{ceiling_of}
use Rattle.machine.specs.Dispatch.{dispatched}
use Rattle.machine.specs.Steps.{step}
use Rattle.law_ceilings.specs.Bodies.{BlockFits, HasExitsInLoops}
use Rattle.law_ceilings.specs.Ceilings.{priority_at}
use Rattle.law_ceilings.specs.Sections.{Stands}

-- what calls cost besides CALL, and which of them are made by tasks below a level
pub record Costing : Type 0 where
  pub cost : Name → Name → ℕ
  pub made : Name → Name → Bool

-- a call that is made
abbrev pub IsMade : Costing → Name → Name → Type 0
IsMade c unit op = c.made unit op ≡ true

-- what a made call of this cost leads to: its body costs at most that, and where a ceiling reaches the level, that is at most a bound
abbrev pub CostsAtMost : System → ℕ → ℕ → Costing → ℕ → CallTarget → Type 0
CostsAtMost y level bound c n (Plain o) = BlockFits (IsMade c) false o.block × (cost y.costs c.cost o.block ≤ n)
CostsAtMost y level bound c n (Protected object op g o) =
    BlockFits (IsMade c) false o.block × (cost y.costs c.cost o.block ≤ n) × (level ≤ ceiling_of y (Object object) → n ≤ bound)
CostsAtMost y level bound c n (Request task) = (2 * y.costs.assign ≤ n) × (level ≤ ceiling_of y (Control task) → n ≤ bound)
CostsAtMost y level bound c n Unknown = ⊤

-- sections of tasks below a level cost at most a bound, where their ceilings reach the level
pub record IsLimited (y : System) (level bound : ℕ) : Type 0 where
  pub costing : Costing
  pub exits : (unit op : Name) → HasExitsInLoops (callee y unit op)
  pub tasks : (i : ℕ) (t : TaskUnit) → slice_get y.threads i ≡ Some t
      → BlockFits (λ unit op. t.priority < level → IsMade costing unit op) false t.block
  pub calls : (unit op : Name) → IsMade costing unit op → CostsAtMost y level bound costing (costing.cost unit op) (callee y unit op)
  pub call : 0 < y.costs.call

-- whether a task of a level uses a tick
abbrev pub is_of_level : System → ℕ → Option ℕ → Bool
is_of_level y level None = false
is_of_level y level (Some i) = nat_le level (priority_at y i)

-- the ticks that no task of a level uses: in a step, and in so many steps
abbrev pub others_in : System → ℕ → Phase → State → ℕ
others_in y level Effects s = 0
others_in y level Delays s = 0
others_in y level Arriving s = 0
others_in y level Use s = if is_of_level y level (dispatched s.tasks s.orders) then 0 else 1

abbrev pub others_now : System → ℕ → State → ℕ
others_now y level s = if s.stopped then 0 else others_in y level s.phase s

abbrev pub others : System → ℕ → ℕ → State → ℕ
others y level zero s = 0
others y level (suc n) s = others_now y level s + others y level n (step y s).0

-- a level that is pending: one of its tasks is ready
abbrev pub IsPending : System → ℕ → List Task → Type 0
IsPending y level ts = (k : ℕ) × (t : Task) × Stands ts k t × (t.readiness ≡ Ready) × (level ≤ t.thread.priority)

-- it is pending whenever a tick is used: in a step, and in so many steps
abbrev pub IsPendingIn : System → ℕ → Phase → State → Type 0
IsPendingIn y level Effects s = ⊤
IsPendingIn y level Delays s = ⊤
IsPendingIn y level Arriving s = ⊤
IsPendingIn y level Use s = IsPending y level s.tasks

abbrev pub IsPendingThrough : System → ℕ → ℕ → State → Type 0
IsPendingThrough y level zero s = ⊤
IsPendingThrough y level (suc n) s = (s.stopped ≡ false → IsPendingIn y level s.phase s) × IsPendingThrough y level n (step y s).0
