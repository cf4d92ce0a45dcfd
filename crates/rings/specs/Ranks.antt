-- Ranks of nodes: where no edge leads to a lower one, a ring stays at one rank, and so does each edge of it.
-- Ranks are numbers in a list, by the nodes.
use Rattle.std.specs.Prelude.{ℕ, ◌==◌, ◌&&◌, Bool, true, List, Option, Some, None, get_or, nat_le, nat_lt}

-- whether an edge among this many nodes leads to a lower rank
abbrev pub falls : ℕ → List ℕ → ℕ × ℕ → Bool
falls count ranks e = nat_lt e.1 count && nat_lt (get_or ranks e.1 0) (get_or ranks e.0 0)

-- whether one leads to the same rank, and leaves a node up to this one
abbrev pub stays : ℕ → List ℕ → ℕ → ℕ × ℕ → Bool
stays count ranks n e = (nat_lt e.1 count && get_or ranks e.0 0 == get_or ranks e.1 0) && nat_le e.0 n

-- whether a node is before another, where there is one
abbrev pub is_before : ℕ → Option ℕ → Bool
is_before n None = true
is_before n (Some first) = nat_lt n first
