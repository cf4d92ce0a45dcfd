-- Systems whose runs never stop: calls and requests are made at ceilings of at least the caller's active priority.
-- A call above a ceiling is an error of ISO/IEC 8652:2012, D.3.
use Rattle.std.specs.Prelude.{◌≡◌, ◌≤◌, ℕ, Bool, true, false, slice_get, unwrap_or, option_map, Some, ⊤}
use Rattle.seq_tree.specs.Names.{Name}
use Rattle.trace_tree.specs.declared.event.Event.{Event}
use Rattle.machine.specs.Systems.{System, TaskUnit, CallTarget, Plain, Protected, Request, Unknown, callee}
use Rattle.machine.specs.States.{Object, Control}
use Rattle.machine.specs.Effects.{ceiling_of}
use Rattle.trace_tree.specs.declared.event.Event.TheVariants as event
use Rattle.law_ceilings.specs.Bodies.{BlockFits}

-- calls that are made somewhere, each with a number that no ceiling which it leads to is below
pub record Reach : Type 0 where
  pub made : Name → Name → Bool
  pub low : Name → Name → ℕ

-- a call that is made, and leads to no ceiling below this
abbrev pub IsMadeFrom : Reach → ℕ → Name → Name → Type 0
IsMadeFrom r n unit op = (r.made unit op ≡ true) × (n ≤ r.low unit op)

-- what a made call with this number leads to
abbrev pub RisesTo : System → Reach → ℕ → CallTarget → Type 0
RisesTo y r n (Plain o) = BlockFits (IsMadeFrom r n) false o.block
RisesTo y r n (Protected object op g o) = (n ≤ ceiling_of y (Object object)) × BlockFits (IsMadeFrom r (ceiling_of y (Object object))) false o.block
RisesTo y r n (Request task) = n ≤ ceiling_of y (Control task)
RisesTo y r n Unknown = ⊤

-- tasks call at ceilings of at least their priority, and protected bodies at ceilings of at least their own
pub record IsCeiled (y : System) : Type 0 where
  pub reach : Reach
  pub tasks : (i : ℕ) (t : TaskUnit) → slice_get y.threads i ≡ Some t → BlockFits (IsMadeFrom reach t.priority) false t.block
  pub calls : (unit op : Name) → reach.made unit op ≡ true → RisesTo y reach (reach.low unit op) (callee y unit op)

-- the base priority of the task at a place
abbrev pub priority_at : System → ℕ → ℕ
priority_at y i = unwrap_or (option_map (λ t. t.priority) (slice_get y.threads i)) 0

-- an event that is no stop at a ceiling
abbrev pub GoesOn : Event → Type 0
GoesOn (event.Stop time task unit priority ceiling) = ⊥
GoesOn _ = ⊤
