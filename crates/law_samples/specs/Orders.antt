-- Which requests the arrivals of a sample hold, said apart from how they are listed: each sporadic thread at all multiples of its
-- separation up to the horizon, each with the number of that multiple, by time and then by thread.
use Rattle.std.specs.Prelude.{◌≡◌, ℕ, ◌*◌, ◌<◌, ◌≤◌, true, List, [], ◌∷◌, ◌⊎◌, ⊤}
use Rattle.seq_tree.specs.Lists.{Each}
use Rattle.sample_design.specs.Requests.{Request, requests}
use Rattle.sample_design.specs.Samples.{is_sporadic, thread_time}

-- a request that a thread of so many has
pub record IsOwn (n : ℕ) (r : Request) : Type 0 where
  pub sporadic : is_sporadic r.thread ≡ true
  pub first : 1 ≤ r.thread
  pub last : r.thread ≤ n
  pub multiple : r.time ≡ r.value * thread_time n r.thread
  pub within : r.time ≤ 10000

-- a request that is one of these
abbrev pub IsAmong : Request → List Request → Type 0
IsAmong r [] = ⊥
IsAmong r (s ∷ ss) = (r ≡ s) ⊎ IsAmong r ss

-- a request that stands before another
abbrev pub IsBefore : Request → Request → Type 0
IsBefore r s = (r.time < s.time) ⊎ ((r.time ≡ s.time) × (r.thread < s.thread))

-- requests of which each stands before all behind it
abbrev pub AreOrdered : List Request → Type 0
AreOrdered [] = ⊤
AreOrdered (r ∷ rs) = Each (IsBefore r) rs × AreOrdered rs

-- the arrivals of so many threads hold their requests, all of them, in order
pub record HoldsAll (n : ℕ) : Type 0 where
  pub own : Each (IsOwn n) (requests n)
  pub all : (r : Request) → IsOwn n r → IsAmong r (requests n)
  pub ordered : AreOrdered (requests n)

-- those of each sample do
abbrev pub RequestsAreAll : Type 0
RequestsAreAll = (n : ℕ) → 1 ≤ n → HoldsAll n
