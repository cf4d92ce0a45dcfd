-- Requests that are served up to the first that comes while another is pending are all served, where none does.
use Rattle.std.specs.Prelude.{ℕ, Bool, true, false, List, [], ◌∷◌, Option, Some, None}
use Rattle.guarantee.specs.Requests.{Notice, Asked, Taken, Done, Pending, AreServed}
use Rattle.std.proofs.lemmas.Bool.{true≢false}
use Rattle.law_releases.specs.Serving.{ServedWhile, NeverOverruns}

-- a request that is pending, as a queue
abbrev pub queue_of : Option Pending → List Pending
queue_of None = []
queue_of (Some first) = first ∷ []

abbrev pub is_pending : Option Pending → Bool
is_pending None = false
is_pending (Some first) = true

-- so all are served
pub served_all : (pending : Option Pending) (idle : Option ℕ) (ns : List Notice) → NeverOverruns (is_pending pending) ns → ServedWhile pending idle ns
    → AreServed (queue_of pending) idle ns
served_all None None [] never served = tt
served_all None (Some since) [] never served = tt
served_all (Some first) None [] never served = tt
served_all (Some first) (Some since) [] never served = absurd served
served_all None None (Asked time value ∷ more) never served = served_all (Some (record { time = time; value = value })) None more never.1 served
served_all None (Some since) (Asked time value ∷ more) never served
    = served_all (Some (record { time = time; value = value })) (Some since) more never.1 served
served_all (Some first) idle (Asked time value ∷ more) never served = absurd (true≢false never.0)
served_all None (Some since) (Done time ∷ more) never served = served_all None (Some since) more never served
served_all None None (Done time ∷ more) never served = served_all None (Some time) more never served
served_all (Some first) (Some since) (Done time ∷ more) never served = served_all (Some first) (Some since) more never served
served_all (Some first) None (Done time ∷ more) never served = served_all (Some first) (Some time) more never served
served_all (Some first) (Some since) (Taken time value ∷ more) never served = (served.0, served.1, served_all None None more never served.2)
served_all None None (Taken time value ∷ more) never served = absurd served
served_all None (Some since) (Taken time value ∷ more) never served = absurd served
served_all (Some first) None (Taken time value ∷ more) never served = absurd served
