-- Ways of calls: what is come to from one caller, by one call, and that caller from one as well, up to a thread.
-- A way has a depth, the number of calls between it and the thread, and the caller from which it comes, where that is no thread.
use Rattle.std.specs.Prelude.{ℕ, ◌+◌, ◌==◌, ◌&&◌, ◌||◌, Bool, true, false, not, List, [], ◌∷◌, Option, Some, None, is_some, map, option_map}
use Rattle.std.specs.List.{list_any}
use Rattle.seq_tree.specs.Calls.{same_op}
use Rattle.seq_tree.specs.declared.tree.OpName.{OpName}
use Rattle.seq_cost.specs.Different.{call_of}
use Rattle.name_sets.specs.Tables.{at}
use Rattle.call_graph.specs.declared.ways.Caller.{Caller}
use Rattle.call_graph.specs.declared.ways.Ways.{Ways}

-- the sum of what operations count
abbrev pub sum_of : (OpName → ℕ) → List OpName → ℕ
sum_of w [] = 0
sum_of w (c ∷ cs) = w c + sum_of w cs

-- what makes calls, none where it is a thread, and what is called
pub record CallerTree : Type 0 where
  pub from : Option OpName
  pub calls : List OpName

abbrev pub caller_of : Caller → CallerTree
caller_of c = record { from = option_map call_of c.from; calls = map call_of c.calls.items }

-- how deep an operation is on its way, where it has one, and from where that comes
abbrev pub depth_at : Ways → OpName → Option ℕ
depth_at t n = at t.depths n

abbrev pub from_at : Ways → OpName → Option OpName
from_at t n = option_map call_of (at t.froms n)

-- whether a way comes from this caller
abbrev pub is_from : Option OpName → OpName → Bool
is_from None n = false
is_from (Some f) n = same_op f n

-- whether this depth is that of a call more
abbrev pub is_next : Option ℕ → ℕ → Bool
is_next None r = false
is_next (Some q) r = q + 1 == r

-- whether the way of what is called, where it has one, comes from this caller
abbrev pub fits_at : (OpName → Option ℕ) → (OpName → Option OpName) → Option OpName → OpName → Option ℕ → Bool
fits_at depth from who k None = true
fits_at depth from None k (Some r) = r == 0
fits_at depth from (Some n) k (Some r) = is_from (from k) n && is_next (depth n) r

abbrev pub fits : (OpName → Option ℕ) → (OpName → Option OpName) → Option OpName → OpName → Bool
fits depth from who k = fits_at depth from who k (depth k)

-- whether one that has a way is called again
abbrev pub repeats : (OpName → Bool) → (OpName → Bool) → List OpName → Bool
repeats has seen [] = false
repeats has seen (c ∷ cs) = (has c && seen c) || repeats has (λ n. (has c && same_op c n) || seen n) cs

-- whether ways don't fit a caller
abbrev pub misfits_at : (OpName → Option ℕ) → (OpName → Option OpName) → CallerTree → Bool
misfits_at depth from c =
    list_any (λ k. not (fits depth from c.from k)) c.calls || repeats (λ k. is_some (depth k)) (λ n. false) c.calls

abbrev pub misfits : Ways → CallerTree → Bool
misfits t c = misfits_at (depth_at t) (from_at t) c
