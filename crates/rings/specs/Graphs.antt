-- Edges between numbered nodes, as they are given and as they are kept by the nodes that they leave.
-- Nodes are numbers from 0; an edge is a pair of the node that it leaves and its target.
use Rattle.std.specs.Prelude.{◌≡◌, ℕ, ◌<◌, ◌==◌, ◌&&◌, Bool, true, List, [], nat_lt, option_map, unwrap_or}
use Rattle.std.specs.Ordering.{nat_cmp}
use Rattle.std.specs.BTreeMap.{get_by}
use Rattle.std.specs.List.{list_any}
use Rattle.rings.specs.declared.targets.Targets.{Targets}

-- whether a number is among these
abbrev pub has_number : List ℕ → ℕ → Bool
has_number ns n = list_any (λ m. m == n) ns

-- whether one of these edges leads from one node to another, which is among this many
abbrev pub is_step : ℕ → List (ℕ × ℕ) → ℕ → ℕ → Bool
is_step count es a b = nat_lt b count && list_any (λ e. e.0 == a && e.1 == b) es

-- the targets of the edges that leave a node
unfoldable pub targets_at : Targets → ℕ → List ℕ
targets_at t a = unwrap_or (option_map (λ v. v.items) (get_by (nat_cmp a) t.map)) []

-- all targets are among this many nodes
abbrev pub AreInside : ℕ → Targets → Type 0
AreInside count t = (a b : ℕ) → has_number (targets_at t a) b ≡ true → b < count
