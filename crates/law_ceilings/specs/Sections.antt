-- The sections that tasks are inside: when an object or a control structure is held, and when it is free.
-- Entering raises the active priority to the ceiling, leaving gives it back (ISO/IEC 8652:2012, D.1 and D.3).
use Rattle.std.specs.Prelude.{◌≡◌, ◌⊎◌, ◌≤◌, ℕ, List, [], ◌∷◌, map, slice_get, Some, ℤ, ⊤}
use Rattle.machine.specs.Systems.{System}
use Rattle.machine.specs.States.{Task, Resource, Held, Control}
use Rattle.machine.specs.Effects.{ceiling_of}
use Rattle.trace_tree.specs.declared.event.Event.{Event}
use Rattle.trace_tree.specs.declared.event.Event.TheVariants as event

-- a task at a place, and its order number
abbrev pub Stands : List Task → ℕ → Task → Type 0
Stands ts i t = slice_get ts i ≡ Some t

abbrev pub IsNumbered : List ℤ → ℕ → ℤ → Type 0
IsNumbered os i o = slice_get os i ≡ Some o

-- the sections of a task have ceilings that do not fall from the first to the last and are not below its base priority;
-- its active priority is the ceiling of the last, and before each it was that of the one before
abbrev pub AreStacked : System → ℕ → ℕ → List Held → Type 0
AreStacked y base active [] = active ≡ base
AreStacked y base active (h ∷ hs) = (active ≡ ceiling_of y h.section) × (h.before ≤ active) × AreStacked y base h.before hs

-- the sections that a task is inside, the innermost first
abbrev pub sections : Task → List Resource
sections t = map (λ h. h.section) t.inside

-- a section among these
abbrev pub IsAmong : Resource → List Resource → Type 0
IsAmong section [] = ⊥
IsAmong section (s ∷ ss) = (s ≡ section) ⊎ IsAmong section ss

-- a task holds a section, a protected object or a control structure: it is inside it
abbrev pub Holds : Task → Resource → Type 0
Holds t section = IsAmong section (sections t)

-- a section is held: some task holds it
abbrev pub IsHeld : List Task → Resource → Type 0
IsHeld ts section = (i : ℕ) × (t : Task) × Stands ts i t × Holds t section

-- a section is free: it isn't held
abbrev pub IsFree : List Task → Resource → Type 0
IsFree ts section = IsHeld ts section → ⊥

-- a step after which a task holds a section that it did not hold before finds the section free
abbrev pub EntersFree : List Task → List Task → Type 0
EntersFree before after = (i : ℕ) (t u : Task) (section : Resource) → Stands before i t → Stands after i u
    → (Holds t section → ⊥) → Holds u section → IsFree before section

-- a release takes from a control structure that is free
abbrev pub TakesFree : List Task → Event → Type 0
TakesFree ts (event.Release time unit value) = (k : ℕ) (t : Task) → Stands ts k t → t.thread.unit ≡ unit → IsFree ts (Control k)
TakesFree ts _ = ⊤
