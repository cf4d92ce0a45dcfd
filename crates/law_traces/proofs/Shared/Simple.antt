-- Times, periodic releases, arrivals and requests: each check decides its part.
use Rattle.std.proofs.Common.{◌≡◌, ℕ, ◌+◌, Bool, true, false, not, List, [], ◌∷◌, ◌++◌, Option, Some, None, refl, ap, ◌∙◌}
use Rattle.std.specs.Prelude.{nat_le, filter, filter_map, max}
use Rattle.std.specs.Bool.{Decides}
use Rattle.std.proofs.lemmas.Slice.Eq.{bytes_eq-Decides}
use Rattle.seq_tree.specs.Names.{Name}
use Rattle.ods_tree.specs.Flats.{Timing, Cyclic, Sporadic}
use Rattle.guarantee.specs.Software.{Task}
use Rattle.guarantee.specs.Events.{Event, By, Horizon}
use Rattle.guarantee.specs.Arrivals.{Arrival}
use Rattle.guarantee.specs.Order.{is_task_name, is_stop, IsInOrder}
use Rattle.guarantee.specs.Releases.{Released, releases, AreOnTime}
use Rattle.guarantee.specs.Requests.{Notice, Asked, Taken, Done, Pending, notices, arrival_by, AreServed, AreTold}
use Rattle.guarantee.specs.Allowed.{IsPeriodic, IsRequested}
use Rattle.law_traces.specs.Checks.{in_order, on_time, is_periodic, same_arrival, same_arrivals, are_told, are_served, is_requested}
use Rattle.law_traces.proofs.Deciding.{decides-and, decides-same, decides-yes, decides-no, decides-le, decides-lt, decides-eq, decides-value}

decides-true : (b : Bool) → Decides b (b ≡ true)
decides-true b = (λ e. e, λ h. h)

decides-not : (b : Bool) → Decides (not b) (b ≡ false)
decides-not true = (λ e. cc, λ h. cc)
decides-not false = (λ e. refl, λ h. refl)

pub times : (ts : List Task) (until now : ℕ) (told : List Event) → Decides (in_order ts until now told) (IsInOrder ts until now told)
times ts until now [] = decides-no _ (λ h. h)
times ts until now (By time task deed ∷ told) =
    decides-same _ _ _ (λ h. (h.0.0.0, h.0.0.1, h.0.1, h.1)) (λ h. (((h.0, h.1), h.2), h.3))
    (decides-and _ _ _ _ (decides-and _ _ _ _ (decides-and _ _ _ _ (decides-le now time) (decides-true (is_task_name ts task)))
    (decides-not (is_stop deed))) (times ts until time told))
times ts until now (Horizon time ∷ []) =
    decides-same _ _ _ (λ h. (h.0, h.1, refl)) (λ h. (h.0, h.1)) (decides-and _ _ _ _ (decides-le now time) (decides-eq time until))
times ts until now (Horizon time ∷ e ∷ told) = decides-no _ (λ h. let wrong = h.2 in cc)

on-time : (period until next : ℕ) (rs : List Released) → Decides (on_time period until next rs) (AreOnTime period until next rs)
on-time period until next [] = decides-lt until next
on-time period until next (r ∷ more) =
    decides-same _ _ _ (λ h. (h.0.0.0, h.0.0.1, h.0.1, h.1)) (λ h. (((h.0, h.1), h.2), h.3))
    (decides-and _ _ _ _ (decides-and _ _ _ _ (decides-and _ _ _ _ (decides-le next until) (decides-eq r.time next)) (decides-value r.value None))
    (on-time period until (next + period) more))

pub cyclic : (until : ℕ) (trace : List Event) (name : Name) (t : Timing) → Decides (is_periodic until trace name t) (IsPeriodic until trace name t)
cyclic until trace name (Cyclic period offset) = on-time period until offset (releases name trace)
cyclic until trace name (Sporadic op separation jitter) = decides-yes _ tt

-- an arrival by its parts
same_parts : (t u : ℕ) (m n : Name) (v w : Option ℕ) → t ≡ u → m ≡ n → v ≡ w
    → (let a : Arrival = record { time = t; task = m; value = v } in a) ≡ record { time = u; task = n; value = w }
same_parts t u m n v w e f g = cc

one-arrival : (a b : Arrival) → Decides (same_arrival a b) (a ≡ b)
one-arrival a b =
    decides-same _ _ _ (λ h. same_parts a.time b.time a.task b.task a.value b.value h.0.0 h.0.1 h.1)
    (λ h. ((ap (λ x. x.time) h, ap (λ x. x.task) h), ap (λ x. x.value) h))
    (decides-and _ _ _ _ (decides-and _ _ _ _ (decides-eq a.time b.time) (bytes_eq-Decides a.task b.task)) (decides-value a.value b.value))

cons_parts : {A : Type 0} (x y : A) (xs ys : List A) → x ∷ xs ≡ y ∷ ys → (x ≡ y) × (xs ≡ ys)
cons_parts x y xs ys e = (cc, cc)

all-arrivals : (xs ys : List Arrival) → Decides (same_arrivals xs ys) (xs ≡ ys)
all-arrivals [] [] = decides-yes _ refl
all-arrivals (a ∷ xs) (b ∷ ys) =
    decides-same _ _ _ (λ h. ap (λ x. x ∷ xs) h.0 ∙ ap (λ zs. b ∷ zs) h.1) (λ h. cons_parts a b xs ys h)
    (decides-and _ _ _ _ (one-arrival a b) (all-arrivals xs ys))
all-arrivals [] (b ∷ ys) = decides-no _ (λ h. cc)
all-arrivals (a ∷ xs) [] = decides-no _ (λ h. cc)

pub arrivals : (until : ℕ) (items : List Arrival) (told : List Event) → Decides (are_told until items told) (AreTold until items told)
arrivals until items told = all-arrivals (filter_map arrival_by told) (filter (λ a. nat_le a.time until) items)

served : (queue : List Pending) (idle : Option ℕ) (ns : List Notice) → Decides (are_served queue idle ns) (AreServed queue idle ns)
served queue idle (Asked time value ∷ more) = served (queue ++ record { time = time; value = value } ∷ []) idle more
served queue (Some since) (Done time ∷ more) = served queue (Some since) more
served queue None (Done time ∷ more) = served queue (Some time) more
served (first ∷ queue) (Some since) (Taken time value ∷ more) =
    decides-same _ _ _ (λ h. (h.0.0, h.0.1, h.1)) (λ h. ((h.0, h.1), h.2))
    (decides-and _ _ _ _ (decides-and _ _ _ _ (decides-eq time (max first.time since)) (decides-value value first.value)) (served queue None more))
served [] (Some since) (Taken time value ∷ more) = decides-no _ (λ h. h)
served [] None (Taken time value ∷ more) = decides-no _ (λ h. h)
served (first ∷ queue) None (Taken time value ∷ more) = decides-no _ (λ h. h)
served [] None [] = decides-yes _ tt
served [] (Some since) [] = decides-yes _ tt
served (first ∷ queue) None [] = decides-yes _ tt
served (first ∷ queue) (Some since) [] = decides-no _ (λ h. h)

pub requests : (trace : List Event) (name : Name) (t : Timing) → Decides (is_requested trace name t) (IsRequested trace name t)
requests trace name (Cyclic period offset) = decides-yes _ tt
requests trace name (Sporadic op separation jitter) = served [] (Some 0) (notices name trace)
