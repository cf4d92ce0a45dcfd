-- The calls of a task that are under way, and how many may be: each place of the list that keeps them holds one.
use Rattle.std.specs.Prelude.{◌≡◌, ℕ, List, [], ◌∷◌, ◌++◌, Option, Some, None, ⊤}
use Rattle.task_runtime.specs.declared.piece.Frame.{Frame}

pub record Framed : Type 0 where
  pub items : List Frame
  pub room : ℕ

-- the calls in some places
abbrev pub there : List (Option Frame) → List Frame
there [] = []
there (None ∷ os) = there os
there (Some f ∷ os) = f ∷ there os

-- each place holds one
abbrev pub AreThere : List (Option Frame) → Type 0
AreThere [] = ⊤
AreThere (None ∷ os) = ⊥
AreThere (Some f ∷ os) = AreThere os

abbrev pub framed : List (Option Frame) → ℕ → Framed
framed os capacity = record { items = there os; room = capacity }

-- the innermost of some calls is this one, or there is none
abbrev pub IsInnermost : List Frame → Option Frame → Type 0
IsInnermost fs None = fs ≡ []
IsInnermost fs (Some f) = (rest : List Frame) × (fs ≡ rest ++ f ∷ [])
