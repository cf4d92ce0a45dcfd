-- What is known of how a task is requested is still known in a later log, where no activation of the task is new.
use Rattle.std.specs.Prelude.{◌≡◌, ◌≢◌, ℕ, ◌+◌, ◌≤◌, Bool, true, false, List, [], ◌∷◌, ◌++◌, slice_get, Option, Some, None}
use Rattle.std.proofs.Common.{sym, ◌∙◌, ap, subst, arith, inl, inr}
use Rattle.seq_tree.specs.Lists.{change}
use Rattle.arrivals_tree.specs.declared.arrivals.Arrival.{Arrival}
use Rattle.rt_response.specs.declared.rows.ThreadRow.{ThreadRow}
use Rattle.machine.specs.Systems.{ReleasePattern, Periodic, Requested}
use Rattle.machine.specs.States.{Phase, Effects, Delays, Arriving, Use, Readiness, Asleep, Waiting, Ready}
use Rattle.law_responses.proofs.Logs.{Made, over_at, OfRow, EndedAt}
use Rattle.law_responses.proofs.Later.{WasThere, IsStill, was-self, still-grown, was-ended, still-ended}
use Rattle.law_responses.proofs.Frames.{Frame, Kept}
use Rattle.law_responses.proofs.Asking.{Sleeps, Came, Awaits, Wait, Asked}
use Rattle.law_lists.proofs.Shared.Places.{each-grown}

-- a later log, as a task with this row sees it
pub record IsLater (acts acts' : List Made) (now r : ℕ) : Type 0 where
  pub before : (k : ℕ) (m : Made) → slice_get acts' k ≡ Some m → m.row ≡ r → WasThere acts k m
  pub still : (k : ℕ) (m : Made) → slice_get acts k ≡ Some m → IsStill acts' now k m

-- an activation of another task is new
pub later-grown : (acts : List Made) (x : Made) (now r : ℕ) → x.row ≢ r → IsLater acts (acts ++ x ∷ []) now r
later-grown acts x now r differ = record {
  before = each-grown (λ k m. m.row ≡ r → WasThere acts k m) acts x (λ k m e same. was-self acts k m e) (λ same. absurd (differ same));
  still = still-grown acts x now;
}

-- an activation has ended
pub later-ended : (acts : List Made) (place now r : ℕ) (made : Made) → slice_get acts place ≡ Some made → made.over ≡ None
    → IsLater acts (change place (over_at now) acts) now r
later-ended acts place now r made stands unended = record {
  before = λ k m e same. was-ended acts place now made stands unended k m e;
  still = still-ended acts place now made stands unended;
}

of-row-later : (acts acts' : List Made) (now r : ℕ) (P : ℕ → Type 0) → IsLater acts acts' now r → OfRow acts r (λ m. P m.nominal)
    → OfRow acts' r (λ m. P m.nominal)
of-row-later acts acts' now r P later all k m e same = let was = later.before k m e same
    in subst P was.alike.nominal (all k was.made was.stands (was.alike.row ∙ same))

ended-later : (acts acts' : List Made) (now r time : ℕ) → IsLater acts acts' now r → EndedAt acts r time → EndedAt acts' r time
ended-later acts acts' now r time later h = let still = later.still h.0 h.1 h.2
    in (h.0, still.made, still.stands, sym still.alike.row ∙ h.3, still.over time h.4)

sleeps-later : (phase : Phase) (time : ℕ) (acts acts' : List Made) (now r next : ℕ) (readiness : Readiness) → IsLater acts acts' now r
    → Sleeps phase time acts r next readiness → Sleeps phase time acts' r next readiness
sleeps-later Effects time acts acts' now r next (Asleep until) later h
    = (h.0, elim h.1 [ inl near ↦ inl near | inr over ↦ inr (ended-later acts acts' now r time later over) ])
sleeps-later Delays time acts acts' now r next (Asleep until) later h
    = (h.0, elim h.1 [ inl near ↦ inl near | inr over ↦ inr (ended-later acts acts' now r time later over) ])
sleeps-later Arriving time acts acts' now r next (Asleep until) later h = h
sleeps-later Use time acts acts' now r next (Asleep until) later h = h
sleeps-later phase time acts acts' now r next Waiting later h = h
sleeps-later phase time acts acts' now r next Ready later h = h

awaits-later : (f : Frame) (time : ℕ) (acts acts' : List Made) (now r : ℕ) (open' : Bool) (row : ThreadRow) (kept : Option Kept)
    → IsLater acts acts' now r
    → Awaits f time acts r open' row kept → Awaits f time acts' r open' row kept
awaits-later f time acts acts' now r open' row None later h = (of-row-later acts acts' now r (λ x. ⊥) later h.0, h.1)
awaits-later f time acts acts' now r open' row (Some q) later h = record {
  asked = h.asked;
  past = h.past;
  before = of-row-later acts acts' now r (λ x. x ≤ q.nominal) later h.before;
  apart = λ e. of-row-later acts acts' now r (λ x. x + row.period ≤ q.nominal) later (h.apart e);
}

-- where the last request came from is still known
pub came-later : (f : Frame) (acts acts' : List Made) (now : ℕ) (taken : List Arrival) (row : ThreadRow) (unit : ℕ) (external : Bool)
    (separation jitter : ℕ) (q : Kept)
    → ((k : ℕ) (m : Made) → slice_get acts k ≡ Some m → IsStill acts' now k m) → q.asked ≤ now
    → Came f acts taken row unit external separation jitter (Some q) → Came f acts' taken row unit external separation jitter (Some q)
came-later f acts acts' now taken row unit true separation jitter q all past h = h
came-later f acts acts' now taken row unit false separation jitter q all past h =
    let still = all h.place h.made h.stands in
    let after : h.made.release ≤ q.asked = h.after in
    record {
      place = h.place;
      made = still.made;
      source = h.source;
      stands = still.stands;
      starter = h.starter ∙ ap Some still.alike.row;
      same = sym still.alike.nominal ∙ h.same;
      after = omega (arith, after, still.alike.release);
      during = still.during q.asked past h.during;
    }

any-later : (f : Frame) (time : ℕ) (acts acts' : List Made) (r : ℕ) (open' : Bool) (taken : List Arrival) (row : ThreadRow) (unit : ℕ)
    (external : Bool) (separation jitter : ℕ) (kept : Option Kept)
    → IsLater acts acts' time r → Awaits f time acts r open' row kept
    → Came f acts taken row unit external separation jitter kept → Came f acts' taken row unit external separation jitter kept
any-later f time acts acts' r open' taken row unit true separation jitter None later awaits h = h
any-later f time acts acts' r open' taken row unit false separation jitter None later awaits h = h
any-later f time acts acts' r open' taken row unit external separation jitter (Some q) later awaits h =
    came-later f acts acts' time taken row unit external separation jitter q later.still awaits.past h

pub asked-later : (f : Frame) (phase : Phase) (time : ℕ) (acts acts' : List Made) (taken : List Arrival) (kept : Option Kept) (r : ℕ) (w : Wait)
    (row : ThreadRow) (t : ReleasePattern) → IsLater acts acts' time r
    → Asked f phase time acts taken kept r w row t → Asked f phase time acts' taken kept r w row t
asked-later f phase time acts acts' taken kept r w row (Periodic offset period) later h = (
  of-row-later acts acts' time r (λ x. x + row.period
      ≤ f.shift + w.next) later h.0,
  sleeps-later phase time acts acts' time r w.next w.readiness later h.1,
)
asked-later f phase time acts acts' taken kept r w row (Requested op ceiling separation jitter external) later h = (
  awaits-later f time acts acts' time r w.open' row kept later h.0,
  any-later f time acts acts' r w.open' taken row w.unit external separation jitter kept later h.0 h.1,
  h.2,
)
