-- How many ticks stand before the next release, and what is left of the first ready task's piece.
use Rattle.std.specs.Prelude.{◌≡◌, ◌⊎◌, ℕ, suc, ◌+◌, ◌-◌, ◌<◌, ◌≤◌, ◌==◌, Bool, true, false, nat_lt, List, [], ◌∷◌, length, get_or, Option, Some}
use Rattle.std.specs.Prelude.{None, option_map, slice_get, refl}
use Rattle.std.proofs.Common.{sym, ◌∙◌, ap, subst, arith, inl, inr}
use Rattle.std.proofs.lemmas.Bool.Decides.{nat_tests}
use Rattle.arrivals_tree.specs.declared.arrivals.Arrival.{Arrival}
use Rattle.law_dispatching.specs.Jumping.{NoArrival}
use Rattle.std.proofs.lemmas.Option.{same_Some, slice_get_read}
use Rattle.link_queue.specs.Queues.{Each, Entry, IsOrdered, WakesBefore}
use Rattle.link_queue.proofs.Shared.Lists.{each-map}
use Rattle.ceil_runtime.specs.Processing.{IsWithin}
use Rattle.task_runtime.specs.declared.task.Task.{Task}

-- all wake after the first one
pub wake-most : (time n : ℕ) (es : List Entry) (wake : ℕ) → IsOrdered WakesBefore es → Some wake ≡ option_map (λ e. e.1) (slice_get es 0)
    → time + n ≤ wake → Each (λ e. time + n ≤ e.1) es
wake-most time n [] wake ordered first le = tt
wake-most time n (e ∷ es) wake ordered first le =
    (here, each-map (WakesBefore e) (λ x. time + n ≤ x.1) es (λ x w. more x w) ordered.0)
  where
    same : wake ≡ e.1
    same = same_Some wake e.1 first

    here : time + n ≤ e.1
    here = omega (arith, same)

    more : (x : Entry) → WakesBefore e x → time + n ≤ x.1
    more x (inl p) = omega (arith, here)
    more x (inr p) = omega (arith, here, p.0)

pub wake-first : (time : ℕ) (es : List Entry) (wake : ℕ) → Each (λ e. time < e.1) es → Some wake ≡ option_map (λ e. e.1) (slice_get es 0)
    → time < wake
wake-first time [] wake later first = absurd (cc first)
wake-first time (e ∷ es) wake later first = let same : wake ≡ e.1 = same_Some wake e.1 first in omega (arith, later.0)

pub wake-none : (P : Entry → Type 0) (es : List Entry) → None ≡ option_map (λ e. e.1) (slice_get es 0) → Each P es
wake-none P [] none = tt
wake-none P (e ∷ es) none = absurd (cc none)

pub each-fewer : (time n m : ℕ) (es : List Entry) → n ≤ m → Each (λ e. time + m ≤ e.1) es → Each (λ e. time + n ≤ e.1) es
each-fewer time n m es le all = each-map (λ e. time + m ≤ e.1) (λ e. time + n ≤ e.1) es (λ e h. omega arith) all

first_task : (task level : ℕ) (e : Entry) → ◌≡◌ {A = Option Entry} (Some (task, level)) (Some e) → task ≡ e.0
first_task task level e first =
    let pair : Entry = (task, level) in
    let same : pair ≡ e = some_same pair first in
    ap (λ x. x.0) same
  where
    some_same : (p : Entry) → Some p ≡ Some e → p ≡ e
    some_same p k = cc

pub head-known : (tasks : List Task) (es : List Entry) (task level : ℕ) → Each (λ e. e.0 < length tasks) es
    → ◌≡◌ {A = Option Entry} (Some (task, level)) (slice_get es 0) → task < length tasks
head-known tasks [] task level all first = absurd (cc first)
head-known tasks (e ∷ es) task level all first = let same : task ≡ e.0 = first_task task level e first in omega (arith, all.0)

pub within-head : (tasks : List Task) (es : List Entry) (task level n : ℕ) (t : Task) → Each (λ e. e.0 < length tasks) es
    → ◌≡◌ {A = Option Entry} (Some (task, level)) (slice_get es 0) → t ≡ get_or tasks task t → (n ≡ 1) ⊎ (n ≤ t.left) → IsWithin tasks es n
within-head tasks [] task level n t all first read le = tt
within-head tasks (e ∷ es) task level n t all first read le =
    λ u at. by_left u (some_same u t (sym at ∙ ap (slice_get tasks) (sym same) ∙ found)) le
  where
    same : task ≡ e.0
    same = first_task task level e first

    found : slice_get tasks task ≡ Some t
    found = let known : task < length tasks = omega (arith, all.0, same) in slice_get_read tasks (length tasks) task t refl known read

    some_same : (u v : Task) → Some u ≡ Some v → u ≡ v
    some_same u v k = cc

    by_left : (u : Task) → u ≡ t → (n ≡ 1) ⊎ (n ≤ t.left) → (n ≡ 1) ⊎ (n ≤ u.left)
    by_left u s (inl one) = inl one
    by_left u s (inr less) = inr (let lefts : u.left ≡ t.left = ap (λ v. v.left) s in omega arith)

pub within-none : (tasks : List Task) (es : List Entry) (n : ℕ) → None ≡ slice_get es 0 → IsWithin tasks es n
within-none tasks [] n none = tt
within-none tasks (e ∷ es) n none = absurd (cc none)

-- no arrival before the first one that is still to come
pub before-arrival : (arrivals : List Arrival) (a : Arrival) (others : List Arrival) (time n : ℕ) → arrivals ≡ a ∷ others
    → (time < a.time → time + n ≤ a.time) → (j : ℕ) → j < n - 1 → NoArrival (time + suc j) arrivals
before-arrival arrivals a others time n is within j h = subst (NoArrival (time + suc j)) (sym is) (by_time (nat_lt time a.time) refl)
  where
    not_then : (m k : ℕ) → (m ≡ k → ⊥) → (m == k) ≡ false
    not_then m k other = grind (arith, nat_tests)

    by_time : (b : Bool) → nat_lt time a.time ≡ b → (a.time == time + suc j) ≡ false
    by_time true e = let later : time < a.time = lt time a.time e in let room : time + n ≤ a.time = within later
        in not_then a.time (time + suc j) (λ same. omega (arith, room, same, h))
      where
        lt : (m k : ℕ) → nat_lt m k ≡ true → m < k
        lt m k t = grind (arith, nat_tests)
    by_time false e = let past : a.time ≤ time = le time a.time e in not_then a.time (time + suc j) (λ same. omega (arith, past, same))
      where
        le : (m k : ℕ) → nat_lt m k ≡ false → k ≤ m
        le m k t = grind (arith, nat_tests)

pub fewer-arrival : (arrivals : List Arrival) (time n m : ℕ) → n ≤ m → ((j : ℕ) → j < m - 1 → NoArrival (time + suc j) arrivals) → (j : ℕ) → j < n - 1
    → NoArrival (time + suc j) arrivals
fewer-arrival arrivals time n m le none j h = none j (omega (arith, le, h))
