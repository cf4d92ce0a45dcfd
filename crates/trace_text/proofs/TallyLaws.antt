-- One more event changes what is kept as the code changes it.
use Rattle.std.specs.Prelude.{◌≡◌, ◌≢◌, ℕ, zero, suc, ◌+◌, ◌-◌, ◌<◌, ◌≤◌, List, [], ◌∷◌, ◌++◌, length, map, filter_map, min, max, Option}
use Rattle.std.specs.Prelude.{Some, None, option_to_list, ◌==◌, Bool, true, false, if◌then◌else◌, flat_map, replicate, get_or, set, refl}
use Rattle.std.proofs.Common.{sym, ◌∙◌, ap, subst, arith, add-one}
use Rattle.std.proofs.lemmas.List.{length-append}
use Rattle.std.proofs.lemmas.Bool.{eq-eqb, eqb-true}
use Rattle.std.proofs.lemmas.List.Elements.{filter_map-append}
use Rattle.seq_tree.specs.Lists.{change}
use Rattle.trace_tree.specs.declared.event.Event.{Event}
use Rattle.trace_tree.specs.declared.event.Event.TheVariants.{Release, Arrive, Enter, Leave, Request, Print, End, Stop, Horizon}
use Rattle.trace_text.specs.declared.tally.Tally.{Tally}
use Rattle.std.specs.List.{enumerate_from}
use Rattle.ada_tree.specs.Programs.{Unit}
use Rattle.trace_text.specs.declared.bound.NamedBound.{NamedBound}
use Rattle.trace_text.specs.Summaries.{unit_line, end_time, greatest, kept_count, next_end, release_time, response_of, responses, sooner}
use Rattle.trace_text.specs.Tallies.{ended, least, lower, open_times, released, tallies_from, Tallies, noted, tallies, tally, tally_lines}
use Rattle.trace_text.specs.Tallies.{tasks_after, unended, waited}

sooner-none : (o : Option ℕ) → sooner o None ≡ o
sooner-none None = refl
sooner-none (Some n) = refl

sooner-assoc : (a b c : Option ℕ) → sooner a (sooner b c) ≡ sooner (sooner a b) c
sooner-assoc None b c = refl
sooner-assoc (Some n) b c = refl

-- the first end with one more event
next_end-more : (task : ℕ) (told : List Event) (e : Event) → next_end task (told ++ e ∷ []) ≡ sooner (next_end task told) (end_time task e)
next_end-more task [] e = sooner-none (end_time task e)
next_end-more task (x ∷ told) e =
    ap (sooner (end_time task x)) (next_end-more task told e) ∙ sooner-assoc (end_time task x) (next_end task told) (end_time task e)

-- an event that is no end leaves the first end
next_end-kept : (task : ℕ) (told : List Event) (e : Event) → end_time task e ≡ None → next_end task (told ++ e ∷ []) ≡ next_end task told
next_end-kept task told e h = next_end-more task told e ∙ ap (sooner (next_end task told)) h ∙ sooner-none (next_end task told)

response-none : (o : Option ℕ) → response_of o None ≡ None
response-none None = refl
response-none (Some n) = refl

-- an event that is no end leaves the responses
responses-kept : (task : ℕ) (told : List Event) (e : Event) → end_time task e ≡ None → responses task (told ++ e ∷ []) ≡ responses task told
responses-kept task [] e h = ap (λ o. option_to_list o ++ []) (response-none (release_time task e))
responses-kept task (x ∷ told) e h =
    ap (λ o. option_to_list (response_of (release_time task x) o) ++ responses task (told ++ e ∷ [])) (next_end-kept task told e h)
    ∙ ap (λ rest. option_to_list (response_of (release_time task x) (next_end task told)) ++ rest) (responses-kept task told e h)

append-one : (xs ys zs : List ℕ) → xs ++ (ys ++ zs) ≡ (xs ++ ys) ++ zs
append-one [] ys zs = refl
append-one (x ∷ xs) ys zs = ap (λ t. x ∷ t) (append-one xs ys zs)

-- an event that is no end adds its release to those that are open
open-kept : (task : ℕ) (told : List Event) (e : Event) → end_time task e ≡ None → open_times task (told ++ e ∷ []) ≡ open_times task told
    ++ option_to_list (release_time task e)
open-kept task [] e h = nil (option_to_list (release_time task e)) where
  nil : (xs : List ℕ) → xs ++ [] ≡ xs
  nil [] = refl
  nil (x ∷ xs) = ap (λ t. x ∷ t) (nil xs)
open-kept task (x ∷ told) e h =
    ap (λ o. option_to_list (unended (release_time task x) o) ++ open_times task (told ++ e ∷ [])) (next_end-kept task told e h)
    ∙ ap (λ rest. option_to_list (unended (release_time task x) (next_end task told)) ++ rest) (open-kept task told e h)
    ∙ append-one (option_to_list (unended (release_time task x) (next_end task told))) (open_times task told) (option_to_list (release_time task e))

-- an end closes all
open-ended : (task : ℕ) (told : List Event) (e : Event) (time : ℕ) → end_time task e ≡ Some time → release_time task e ≡ None
    → open_times task (told ++ e ∷ []) ≡ []
open-ended task [] e time h none = ap (λ o. option_to_list (unended o None) ++ []) none
open-ended task (x ∷ told) e time h none =
    ap (λ o. option_to_list (unended (release_time task x) o) ++ open_times task (told ++ e ∷ []))
    (there (next_end task told) (next_end-more task told e ∙ ap (sooner (next_end task told)) h)).1
    ∙ ap (λ o. option_to_list o ++ open_times task (told ++ e ∷ []))
    (gone (release_time task x) (there (next_end task told) (next_end-more task told e ∙ ap (sooner (next_end task told)) h)).0)
    ∙ open-ended task told e time h none where
      there : (o : Option ℕ) → {n : Option ℕ} → n ≡ sooner o (Some time) → (m : ℕ) × (n ≡ Some m)
      there None p = (time, p)
      there (Some m) p = (m, p)

      gone : (o : Option ℕ) (m : ℕ) → unended o (Some m) ≡ None
      gone o m = refl

max-three : (a b c : ℕ) → max a (max b c) ≡ max (max a b) c
max-three a b c = omega (arith)

max-two : (a b : ℕ) → max a b ≡ max b a
max-two a b = omega (arith)

max-nothing : (n : ℕ) → max n 0 ≡ n
max-nothing n = omega (arith)

-- the greatest of these times before an end
abbrev longest : ℕ → List ℕ → ℕ
longest time open' = greatest (map (λ from. time - from) open')

-- an end adds the responses of all that are open
responses-ended : (task : ℕ) (told : List Event) (e : Event) (time : ℕ) → end_time task e ≡ Some time → release_time task e ≡ None
    → greatest (responses task (told ++ e ∷ [])) ≡ max (greatest (responses task told)) (longest time (open_times task told))
responses-ended task [] e time h none = ap (λ o. greatest (option_to_list (response_of o None) ++ [])) none ∙ sym (max-nothing 0)
responses-ended task (x ∷ told) e time h none =
    ap (λ o. greatest (option_to_list (response_of (release_time task x) o) ++ responses task (told ++ e ∷ [])))
    (next_end-more task told e ∙ ap (sooner (next_end task told)) h)
    ∙ go (release_time task x) (next_end task told) (responses task (told ++ e ∷ [])) (responses task told) (open_times task told)
    (responses-ended task told e time h none) where
      go : (r n : Option ℕ) (more rs open' : List ℕ) → greatest more ≡ max (greatest rs) (longest time open')
          → greatest (option_to_list (response_of r (sooner n (Some time))) ++ more)
          ≡ max (greatest (option_to_list (response_of r n) ++ rs)) (longest time (option_to_list (unended r n) ++ open'))
      go None None more rs open' p = p
      go None (Some m) more rs open' p = p
      go (Some from) None more rs open' p =
          ap (max (time - from)) p ∙ max-three (time - from) (greatest rs) (longest time open')
          ∙ ap (λ n. max n (longest time open')) (max-two (time - from) (greatest rs))
          ∙ sym (max-three (greatest rs) (time - from) (longest time open'))
      go (Some from) (Some m) more rs open' p = ap (max (m - from)) p ∙ max-three (m - from) (greatest rs) (longest time open')

min-two : (a b : ℕ) → min a b ≡ min b a
min-two a b = omega (arith)

min-three : (a b c : ℕ) → min a (min b c) ≡ min (min a b) c
min-three a b c = omega (arith)

-- one more release that is open
least-more : (ns : List ℕ) (n : ℕ) → least (ns ++ n ∷ []) ≡ Some (lower n (least ns))
least-more [] n = refl
least-more (m ∷ ns) n = ap (λ o. Some (lower m o)) (least-more ns n) ∙ go (least ns) where
  go : (o : Option ℕ) → Some (lower m (Some (lower n o))) ≡ Some (lower n (Some (lower m o)))
  go None = ap Some (min-two m n)
  go (Some l) = ap Some (min-three m n l ∙ ap (λ k. min k l) (min-two m n) ∙ sym (min-three n m l))

-- of two waits that of the earlier release is longer
wait-min : (time a b : ℕ) → max (time - a) (time - b) ≡ time - min a b
wait-min time a b = omega (arith)

-- the longest wait is that of the earliest release
longest-least : (time : ℕ) (open' : List ℕ) → longest time open' ≡ waited time (least open')
longest-least time [] = refl
longest-least time (n ∷ ns) = ap (max (time - n)) (longest-least time ns) ∙ go (least ns) where
  go : (o : Option ℕ) → max (time - n) (waited time o) ≡ time - lower n o
  go None = max-nothing (time - n)
  go (Some m) = wait-min time n m

-- one more that is counted
count-more : (n m : ℕ) → min (n + 1) m ≡ min (min n m + 1) m
count-more n m = omega (arith)

-- how many an event adds
counted : (f : Event → Option ℕ) (told : List Event) (e : Event) → length (filter_map f (told ++ e ∷ []))
    ≡ length (filter_map f told) + length (filter_map f (e ∷ []))
counted f told e = ap length (filter_map-append f told (e ∷ [])) ∙ length-append (filter_map f told) (filter_map f (e ∷ []))

plus-zero : (n : ℕ) → n + 0 ≡ n
plus-zero n = omega (arith)

-- an event that counts
count-one : (f : Event → Option ℕ) (told : List Event) (e : Event) (n : ℕ) → f e ≡ Some n
    → kept_count (length (filter_map f (told ++ e ∷ []))) ≡ kept_count (kept_count (length (filter_map f told)) + 1)
count-one f told e n h =
    ap kept_count (counted f told e ∙ added (length (filter_map f told))) ∙ count-more (length (filter_map f told)) 18446744073709551615 where
      added : (k : ℕ) → k + length (filter_map f (e ∷ [])) ≡ k + 1
      added k = rw h refl

-- an event that does not
count-none : (f : Event → Option ℕ) (told : List Event) (e : Event) → f e ≡ None
    → kept_count (length (filter_map f (told ++ e ∷ []))) ≡ kept_count (length (filter_map f told))
count-none f told e h = ap kept_count (counted f told e ∙ added (length (filter_map f told))) where
  added : (k : ℕ) → k + length (filter_map f (e ∷ [])) ≡ k
  added k = rw h (plus-zero k)

-- the four parts of what is kept
parts : (a b : Tally) → a.releases ≡ b.releases → a.ends ≡ b.ends → a.greatest ≡ b.greatest → a.waiting ≡ b.waiting → a ≡ b
parts a b r n g w = λ i. record { releases = r i; ends = n i; greatest = g i; waiting = w i }

append-nil' : (xs : List ℕ) → xs ++ [] ≡ xs
append-nil' [] = refl
append-nil' (x ∷ xs) = ap (λ t. x ∷ t) (append-nil' xs)

-- an event that neither releases nor ends a task
pub tally-kept : (told : List Event) (e : Event) (task : ℕ) → release_time task e ≡ None → end_time task e ≡ None → tally (told ++ e ∷ []) task
    ≡ tally told task
tally-kept told e task r n =
    parts (tally (told ++ e ∷ []) task) (tally told task) (count-none (release_time task) told e r) (count-none (end_time task) told e n)
    (ap greatest (responses-kept task told e n))
    (ap least (open-kept task told e n ∙ ap (λ o. open_times task told ++ option_to_list o) r ∙ append-nil' (open_times task told)))

-- an event that releases a task
pub tally-released : (told : List Event) (e : Event) (task time : ℕ) → release_time task e ≡ Some time → end_time task e ≡ None
    → tally (told ++ e ∷ []) task ≡ released time (tally told task)
tally-released told e task time r n =
    parts (tally (told ++ e ∷ []) task) (released time (tally told task)) (count-one (release_time task) told e time r)
    (count-none (end_time task) told e n)
    (ap greatest (responses-kept task told e n))
    (ap least (open-kept task told e n ∙ ap (λ o. open_times task told ++ option_to_list o) r) ∙ least-more (open_times task told) time)

-- an event that ends an activation of a task
pub tally-ended : (told : List Event) (e : Event) (task time : ℕ) → release_time task e ≡ None → end_time task e ≡ Some time
    → tally (told ++ e ∷ []) task ≡ ended time (tally told task)
tally-ended told e task time r n =
    parts (tally (told ++ e ∷ []) task) (ended time (tally told task)) (count-none (release_time task) told e r)
    (count-one (end_time task) told e time n)
    (responses-ended task told e time n r ∙ ap (max (greatest (responses task told))) (longest-least time (open_times task told)))
    (ap least (open-ended task told e time n r))

not-same : (a b : ℕ) → a ≢ b → (a == b) ≡ false
not-same a b h = go (a == b) refl where
  go : (c : Bool) → (a == b) ≡ c → (a == b) ≡ false
  go true p = absurd (h (eqb-true a b p))
  go false p = p

-- tasks from a place on, where none changes
tallies-kept : (place size : ℕ) (told : List Event) (e : Event) → ((task : ℕ) → place ≤ task → tally (told ++ e ∷ []) task ≡ tally told task)
    → tallies_from place size (told ++ e ∷ []) ≡ tallies_from place size told
tallies-kept place zero told e same = refl
tallies-kept place (suc size) told e same =
    ap (λ t. t ∷ tallies_from (suc place) size (told ++ e ∷ [])) (same place (omega (arith)))
    ∙ ap (λ ts. tally told place ∷ ts) (tallies-kept (suc place) size told e (λ task h. same task (omega (arith, h))))

-- tasks from a place on, where one changes
tallies-changed : (place size at : ℕ) (told : List Event) (e : Event) (f : Tally → Tally) → tally (told ++ e ∷ []) (place + at)
    ≡ f (tally told (place + at))
    → ((task : ℕ) → (place + at) ≢ task → tally (told ++ e ∷ []) task ≡ tally told task)
    → tallies_from place size (told ++ e ∷ []) ≡ change at f (tallies_from place size told)
tallies-changed place zero at told e f here same = refl
tallies-changed place (suc size) zero told e f here same =
    ap (λ t. t ∷ tallies_from (suc place) size (told ++ e ∷ [])) (at-place (place + 0) place (omega (arith)) here)
    ∙ ap (λ ts. f (tally told place) ∷ ts) (tallies-kept (suc place) size told e (λ task h. same task (λ p. omega (arith, h, p)))) where
      at-place : (n m : ℕ) → n ≡ m → tally (told ++ e ∷ []) n ≡ f (tally told n) → tally (told ++ e ∷ []) m ≡ f (tally told m)
      at-place n m p h = subst (λ k. tally (told ++ e ∷ []) k ≡ f (tally told k)) p h
tallies-changed place (suc size) (suc at) told e f here same =
    ap (λ t. t ∷ tallies_from (suc place) size (told ++ e ∷ [])) (same place (λ p. omega (arith, p)))
    ∙ ap (λ ts. tally told place ∷ ts) (tallies-changed (suc place) size at told e f
    (subst (λ k. tally (told ++ e ∷ []) k ≡ f (tally told k)) (shift place at) here)
    (λ task h. same task (λ p. h (sym (shift place at) ∙ p)))) where
      shift : (n m : ℕ) → n + suc m ≡ suc n + m
      shift n m = omega (arith)

-- tasks from the first on, where one changes
from-first : (size at : ℕ) (told : List Event) (e : Event) (f : Tally → Tally) → tally (told ++ e ∷ []) at ≡ f (tally told at)
    → ((task : ℕ) → at ≢ task → tally (told ++ e ∷ []) task ≡ tally told task)
    → tallies_from 0 size (told ++ e ∷ []) ≡ change at f (tallies_from 0 size told)
from-first size at told e f here same =
    tallies-changed 0 size at told e f (subst (λ k. tally (told ++ e ∷ []) k ≡ f (tally told k)) (sym (zero-plus at)) here)
    (λ task h. same task (λ p. h (zero-plus at ∙ p))) where
      zero-plus : (n : ℕ) → 0 + n ≡ n
      zero-plus n = omega (arith)

if-same : (a : ℕ) (time : ℕ) → (if a == a then Some time else None) ≡ Some time
if-same a time = ap (λ b. if b then Some time else None) (eq-eqb a a refl)

if-not : (a b time : ℕ) → a ≢ b → (if a == b then Some time else None) ≡ None
if-not a b time h = ap (λ c. if c then Some time else None) (not-same a b h)

-- what is kept of the tasks after one more event
pub tasks-after : (size : ℕ) (told : List Event) (e : Event) → tallies_from 0 size (told ++ e ∷ []) ≡ tasks_after e (tallies_from 0 size told)
tasks-after size told (Release time task value) =
    from-first size task told (Release time task value) (released time)
    (tally-released told (Release time task value) task time (if-same task time) refl)
    (λ other h. tally-kept told (Release time task value) other (if-not task other time h) refl)
tasks-after size told (End time task used) =
    from-first size task told (End time task used) (ended time) (tally-ended told (End time task used) task time refl (if-same task time))
    (λ other h. tally-kept told (End time task used) other refl (if-not task other time h))
tasks-after size told (Arrive time task value) =
    tallies-kept 0 size told (Arrive time task value) (λ other h. tally-kept told (Arrive time task value) other refl refl)
tasks-after size told (Enter time task unit op values) =
    tallies-kept 0 size told (Enter time task unit op values) (λ other h. tally-kept told (Enter time task unit op values) other refl refl)
tasks-after size told (Leave time task unit op values) =
    tallies-kept 0 size told (Leave time task unit op values) (λ other h. tally-kept told (Leave time task unit op values) other refl refl)
tasks-after size told (Request time task target value) =
    tallies-kept 0 size told (Request time task target value) (λ other h. tally-kept told (Request time task target value) other refl refl)
tasks-after size told (Print time task value) =
    tallies-kept 0 size told (Print time task value) (λ other h. tally-kept told (Print time task value) other refl refl)
tasks-after size told (Stop time task unit priority ceiling) =
    tallies-kept 0 size told (Stop time task unit priority ceiling)
    (λ other h. tally-kept told (Stop time task unit priority ceiling) other refl refl)
tasks-after size told (Horizon time) = tallies-kept 0 size told (Horizon time) (λ other h. tally-kept told (Horizon time) other refl refl)

-- the count of all after one more event
pub lines-after : (told : List Event) (e : Event) → kept_count (length (told ++ e ∷ [])) ≡ kept_count (kept_count (length told) + 1)
lines-after told e = ap kept_count (length-append told (e ∷ [])) ∙ count-more (length told) 18446744073709551615

-- what is kept after one more event
pub noted-is : (size : ℕ) (told : List Event) (e : Event) (t : Tallies) → t ≡ tallies size told → noted e t ≡ tallies size (told ++ e ∷ [])
noted-is size told e t h =
    ap (noted e) h ∙ (λ i. record { tasks = sym (tasks-after size told e) i; lines = sym (lines-after told e) i })

-- nothing is kept of no events
pub tallies-nothing : (place size : ℕ) → tallies_from place size [] ≡ replicate size (record { releases = 0; ends = 0; greatest = 0; waiting = None })
tallies-nothing place zero = refl
tallies-nothing place (suc size) = ap (λ ts. tally [] place ∷ ts) (tallies-nothing (suc place) size)

-- an item set anew is changed
pub change-is-set : (xs : List Tally) (i : ℕ) (x : Tally) (f : Tally → Tally) → i < length xs → x ≡ get_or xs i x → set xs i (f x) ≡ change i f xs
change-is-set [] i x f h is = absurd (omega (arith, h))
change-is-set (y ∷ xs) zero x f h is = ap (λ t. f t ∷ xs) is
change-is-set (y ∷ xs) (suc i) x f h is = ap (λ ts. y ∷ ts) (change-is-set xs i x f (omega (arith, h)) is)

-- the lines of units by what is kept are those of the summary
pub lines-are : (bounds : List NamedBound) (place : ℕ) (us : List Unit) (told : List Event)
    → tally_lines bounds us (tallies_from place (length us) told) ≡ flat_map (unit_line bounds told) (enumerate_from place us)
lines-are bounds place [] told = refl
lines-are bounds place (u ∷ us) told =
    ap (λ t. unit_line bounds told (place, u) ++ t)
    (lines-are bounds (suc place) us told ∙ ap (λ n. flat_map (unit_line bounds told) (enumerate_from n us)) (sym (add-one place)))
