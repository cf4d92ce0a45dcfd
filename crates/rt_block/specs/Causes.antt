-- Causes of blocking by places: which operations have a section that keeps a level waiting for so many ticks, numbered so that the greatest
-- number is that of the first.
-- A thread whose calls lead to one has the greatest of these numbers above 0.
use Rattle.std.specs.Prelude.{◌≡◌, ℕ, zero, suc, ◌&&◌, ◌==◌, Bool, List, [], ◌∷◌, length, map, zip, nat_le, nat_lt, Option, Some, None, if◌then◌else◌}
use Rattle.seq_tree.specs.declared.tree.OpName.{OpName}
use Rattle.call_graph.specs.Numbers.{greatest_of}
use Rattle.call_graph.specs.declared.services.Served.{Served}
use Rattle.rt_block.specs.Known.{known_entries}
use Rattle.rt_block.specs.declared.operations.Operations.{Operations}
use Rattle.block_causes.specs.Causes as causes
use Rattle.rt_block.specs.declared.causes.Cause.{Cause}

-- whether a section has a ceiling that reaches a level, and so many ticks
abbrev pub waits : ℕ → ℕ → ℕ × ℕ → Bool
waits level ticks x = nat_le level x.0 && x.1 == ticks

-- the earlier a place, the greater its number, where it counts
abbrev pub numbers : List Bool → List ℕ
numbers [] = []
numbers (b ∷ bs) = (if b then suc (length bs) else 0) ∷ numbers bs

-- the numbers of the operations whose sections do
abbrev pub cause_numbers : ℕ → ℕ → List ℕ → List ℕ → List ℕ
cause_numbers level ticks ceilings sections = numbers (map (waits level ticks) (zip ceilings sections))

-- a thread with a number above 0, or else others
abbrev pub number_or : ℕ → ℕ → Option (ℕ × ℕ) → Option (ℕ × ℕ)
number_or at zero others = others
number_or at (suc n) others = Some (at, suc n)

-- the first thread of lower priority whose calls lead to one, with the greatest number
abbrev pub first_number : List ℕ → ℕ → ℕ → List (List ℕ × ℕ) → Option (ℕ × ℕ)
first_number known level at [] = None
first_number known level at (u ∷ us) =
    number_or at (if nat_lt u.1 level then greatest_of known 0 u.0 else 0) (first_number known level (suc at) us)

-- what the code keeps of a cause
abbrev pub cause_of : Cause → causes.Cause
cause_of c = record { thread = c.thread; op = record { object = c.object; op = c.op } }

-- the name of an operation that the code keeps
abbrev pub op_of : Served → OpName
op_of s = record { object = s.object.now; op = s.op.now }

-- the names of all operations, in order
abbrev pub AreNamed : Operations → Type 0
AreNamed k = map op_of k.services.items ≡ map (λ e. e.name) (known_entries k)

-- the cause by an operation of a thread
abbrev pub cause_in : ℕ → OpName → causes.Cause
cause_in thread c = record { thread = thread; op = c }
