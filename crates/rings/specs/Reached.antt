-- Which nodes of a graph are led to from given ones, and which lead back to themselves.
-- A path goes along one edge or more.
use Rattle.std.specs.Prelude.{◌≡◌, ◌⊎◌, ◌<◌, ℕ, ◌&&◌, Bool, true, false, List, Option, Some, None, nat_lt}
use Rattle.seq_tree.specs.Rings.{LeadsTo, IsOnRing}
use Rattle.rings.specs.Graphs.{has_number, targets_at}
use Rattle.rings.specs.declared.graph.Graph.{Graph}

-- whether an edge leads from one node to another
abbrev pub leads : Graph → ℕ → ℕ → Bool
leads g a b = has_number (targets_at g.targets a) b

-- an edge of these does
abbrev pub Goes : (ℕ → ℕ → Bool) → ℕ → ℕ → Type 0
Goes step a b = step a b ≡ true

-- a node that is one of these starts, or is led to from one
abbrev pub IsReachedBy : (ℕ → ℕ → Bool) → (ℕ → Bool) → ℕ → Type 0
IsReachedBy step is_start n = (s : ℕ) × (is_start s ≡ true) × ((s ≡ n) ⊎ ((path : List ℕ) × LeadsTo (Goes step) s path n))

-- a node of a graph that is one of these, or is led to from one
abbrev pub IsReached : Graph → List ℕ → ℕ → Type 0
IsReached g starts = IsReachedBy (leads g) (λ s. has_number starts s && nat_lt s g.count)

-- whether a node is on a ring
abbrev pub TellsRing : (ℕ → ℕ → Bool) → ℕ → Bool → Type 0
TellsRing step n true = IsOnRing (Goes step) n
TellsRing step n false = IsOnRing (Goes step) n → ⊥

-- the first node on a ring, where there is one
abbrev pub IsFirstOnRing : (ℕ → ℕ → Bool) → Option ℕ → Type 0
IsFirstOnRing step None = (n : ℕ) → IsOnRing (Goes step) n → ⊥
IsFirstOnRing step (Some first) = IsOnRing (Goes step) first × ((n : ℕ) → n < first → IsOnRing (Goes step) n → ⊥)
