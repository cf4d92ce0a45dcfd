-- The requests of a sample are those of its threads, all of them, by time and then by thread.
use Rattle.std.proofs.Common.{◌≡◌, ℕ, zero, suc, ◌+◌, ◌*◌, ◌/◌, ◌%◌, ◌<◌, ◌≤◌, Bool, true, false, ◌⊎◌, inl, inr, List, [], ◌∷◌, ◌++◌, map}
use Rattle.std.proofs.Common.{filter, flat_map, refl, sym, ap, subst, ◌∙◌, arith, le_refl, eqb-true, eq-eqb}
use Rattle.std.specs.Prelude.{if◌then◌else◌}
use Rattle.std.proofs.lemmas.Bool.{and_from, and_parts, cases_lt}
use Rattle.std.proofs.lemmas.Nat.{div-add-mod', div-mul-add, mod-mul-add}
use Rattle.seq_tree.specs.Lists.{Each}
use Rattle.sample_design.specs.Requests.{Request, is_due, request_at, requests_among, requests_at}
use Rattle.sample_design.specs.Samples.{from_on, from_to, is_sporadic, thread_time}
use Rattle.law_samples.specs.Orders.{IsOwn, IsAmong, IsBefore, AreOrdered, HoldsAll}
use Rattle.law_samples.proofs.Requests.{all_threads, all_times, each-append}

-- THEIR OWN
-- a request where it is due
due-own : (n time k : ℕ) → 1 ≤ k → k ≤ n → time ≤ 10000 → is_due n time k ≡ true → IsOwn n (request_at n time k)
due-own n time k low high within due =
    let p = and_parts (is_sporadic k) _ due in
    let whole : time % thread_time n k ≡ 0 = eqb-true (time % thread_time n k) 0 p.1 in
    record {
      sporadic = p.0;
      first = low;
      last = high;
      multiple = omega (arith, div-add-mod' time (thread_time n k), whole);
      within = within;
    }

among-own : (n time first count : ℕ) → time ≤ 10000 → 1 ≤ first → first + count ≤ suc n → Each (IsOwn n) (requests_among n time (from_on first count))
among-own n time first zero within low high = tt
among-own n time first (suc count) within low high =
    by (is_due n time first) refl (among-own n time (suc first) count within (omega arith) (omega (arith, high)))
  where
    others : List ℕ
    others = filter (is_due n time) (from_on (suc first) count)

    by : (due : Bool) → is_due n time first ≡ due → Each (IsOwn n) (map (request_at n time) others)
        → Each (IsOwn n) (map (request_at n time) (if due then first ∷ others else others))
    by true due rest = (due-own n time first low (omega (arith, high)) within due, rest)
    by false due rest = rest

times-own : (n first count : ℕ) → first + count ≤ 10001 → Each (IsOwn n) (flat_map (requests_at n) (from_on first count))
times-own n first zero within = tt
times-own n first (suc count) within =
    each-append (IsOwn n) (requests_at n first) _
    (subst (λ ks. Each (IsOwn n) (requests_among n first ks)) (sym (all_threads n))
    (among-own n first 1 n (omega (arith, within)) (le_refl 1) (omega arith)))
    (times-own n (suc first) count (omega (arith, within)))

-- ALL OF THEM
among-right : (r : Request) (rs ss : List Request) → IsAmong r ss → IsAmong r (rs ++ ss)
among-right r [] ss h = h
among-right r (s ∷ rs) ss h = inr (among-right r rs ss h)

among-left : (r : Request) (rs ss : List Request) → IsAmong r rs → IsAmong r (rs ++ ss)
among-left r [] ss h = absurd h
among-left r (s ∷ rs) ss (inl e) = inl e
among-left r (s ∷ rs) ss (inr h) = inr (among-left r rs ss h)

-- at a time, of a thread that is due
due-among : (n time k first count : ℕ) → first ≤ k → k < first + count → is_due n time k ≡ true
    → IsAmong (request_at n time k) (requests_among n time (from_on first count))
due-among n time k first zero low high due = absurd (omega (arith, low, high))
due-among n time k first (suc count) low high due =
    by (is_due n time first) refl (cases_lt first k) (λ more less. due-among n time k (suc first) count more less due)
  where
    others : List ℕ
    others = filter (is_due n time) (from_on (suc first) count)

    by : (b : Bool) → is_due n time first ≡ b → (first < k) ⊎ (k ≤ first)
        → (suc first ≤ k → k < suc first + count → IsAmong (request_at n time k) (map (request_at n time) others))
        → IsAmong (request_at n time k) (map (request_at n time) (if b then first ∷ others else others))
    by true e (inl less) rest = inr (rest less (omega (arith, high)))
    by true e (inr most) rest = let same : k ≡ first = omega (arith, low, most) in inl (ap (request_at n time) same)
    by false e (inl less) rest = rest less (omega (arith, high))
    by false e (inr most) rest = let same : k ≡ first = omega (arith, low, most) in absurd (apart (sym due ∙ ap (is_due n time) same ∙ e))
      where
        apart : true ≡ false → ⊥
        apart e = cc

-- at one of the times
time-among : (n time first count : ℕ) (r : Request) → first ≤ time → time < first + count → IsAmong r (requests_at n time)
    → IsAmong r (flat_map (requests_at n) (from_on first count))
time-among n time first zero r low high h = absurd (omega (arith, low, high))
time-among n time first (suc count) r low high h = by (cases_lt first time) (λ more less. time-among n time (suc first) count r more less h)
  where
    by : (first < time) ⊎ (time ≤ first) → (suc first ≤ time → time < suc first + count
        → IsAmong r (flat_map (requests_at n) (from_on (suc first) count)))
        → IsAmong r (requests_at n first ++ flat_map (requests_at n) (from_on (suc first) count))
    by (inl less) rest = among-right r (requests_at n first) _ (rest less (omega (arith, high)))
    by (inr most) rest = let same : time ≡ first = omega (arith, low, most)
        in among-left r (requests_at n first) _ (subst (λ t. IsAmong r (requests_at n t)) same h)

own-at : (n : ℕ) (r : Request) → 1 ≤ n → IsOwn n r → (is_due n r.time r.thread ≡ true) × (request_at n r.time r.thread ≡ r)
own-at n r some h =
    let positive : 0 < thread_time n r.thread = omega (arith, some) in
    let time : r.value * thread_time n r.thread + 0 ≡ r.time = omega (arith, h.multiple) in
    let whole : r.time % thread_time n r.thread ≡ 0
    = subst (λ t. t % thread_time n r.thread ≡ 0) time (mod-mul-add r.value (thread_time n r.thread) 0 positive) in
    let count : r.time / thread_time n r.thread ≡ r.value
    = subst (λ t. t / thread_time n r.thread ≡ r.value) time (div-mul-add r.value (thread_time n r.thread) 0 positive) in (
      and_from _ _ h.sporadic (eq-eqb (r.time % thread_time n r.thread) 0 whole),
      ap (λ v. let s : Request = record { time = r.time; thread = r.thread; value = v } in s) count,
    )

own-among : (n until : ℕ) (r : Request) → 1 ≤ n → r.time ≤ until → IsOwn n r → IsAmong r (flat_map (requests_at n) (from_on 0 (suc until)))
own-among n until r some within h =
    let at = own-at n r some h in
    let there : IsAmong (request_at n r.time r.thread) (requests_among n r.time (from_on 1 n)) =
    due-among n r.time r.thread 1 n h.first (let last = h.last in omega (arith, last)) at.0 in
    let there' : IsAmong r (requests_at n r.time) =
    subst (λ ks. IsAmong r (requests_among n r.time ks)) (sym (all_threads n))
    (subst (λ s. IsAmong s (requests_among n r.time (from_on 1 n))) at.1 there) in
    time-among n r.time 0 (suc until) r (omega arith) (omega (arith, within)) there'

-- IN ORDER
-- requests at a time, of threads from one on; and at times from one on
IsFrom : ℕ → ℕ → Request → Type 0
IsFrom time first r = (r.time ≡ time) × (first ≤ r.thread)

among-from : (n time low first count : ℕ) → low ≤ first → Each (IsFrom time low) (requests_among n time (from_on first count))
unfolding IsFrom
among-from n time low first zero h = tt
among-from n time low first (suc count) h = by (is_due n time first) (among-from n time low (suc first) count (omega (arith, h)))
  where
    others : List ℕ
    others = filter (is_due n time) (from_on (suc first) count)

    by : (due : Bool) → Each (IsFrom time low) (map (request_at n time) others)
        → Each (IsFrom time low) (map (request_at n time) (if due then first ∷ others else others))
    by true rest = ((refl, h), rest)
    by false rest = rest

each-still : {A : Type 0} (P Q : A → Type 0) (xs : List A) → ((a : A) → P a → Q a) → Each P xs → Each Q xs
each-still P Q [] f h = tt
each-still P Q (x ∷ xs) f h = (f x h.0, each-still P Q xs f h.1)

among-ordered : (n time first count : ℕ) → AreOrdered (requests_among n time (from_on first count))
unfolding IsFrom
among-ordered n time first zero = tt
among-ordered n time first (suc count) = by (is_due n time first) (among-ordered n time (suc first) count)
  where
    others : List ℕ
    others = filter (is_due n time) (from_on (suc first) count)

    by : (due : Bool) → AreOrdered (map (request_at n time) others) → AreOrdered (map (request_at n time) (if due then first ∷ others else others))
    by true rest = (
      each-still (IsFrom time (suc first)) (IsBefore (request_at n time first)) (map (request_at n time) others) (λ r h. inr (sym h.0, h.1))
          (among-from n time (suc first) (suc first) count (le_refl (suc first))),
      rest,
    )
    by false rest = rest

at-from : (n time : ℕ) → Each (IsFrom time 1) (requests_at n time)
at-from n time = subst (λ ks. Each (IsFrom time 1) (requests_among n time ks)) (sym (all_threads n)) (among-from n time 1 1 n (le_refl 1))

times-from : (n low first count : ℕ) → low ≤ first → Each (λ r. low ≤ r.time) (flat_map (requests_at n) (from_on first count))
unfolding IsFrom
times-from n low first zero h = tt
times-from n low first (suc count) h =
    each-append (λ r. low ≤ r.time) (requests_at n first) _ (each-still (IsFrom first 1) (λ r. low ≤ r.time) (requests_at n first)
    (λ r k. subst (λ t. low ≤ t) (sym k.0) h) (at-from n first))
    (times-from n low (suc first) count (omega (arith, h)))

ordered-append : (rs ss : List Request) → AreOrdered rs → AreOrdered ss → Each (λ r. Each (IsBefore r) ss) rs → AreOrdered (rs ++ ss)
ordered-append [] ss h k across = k
ordered-append (r ∷ rs) ss h k across = (each-append (IsBefore r) rs ss h.0 across.0, ordered-append rs ss h.1 k across.1)

times-ordered : (n first count : ℕ) → AreOrdered (flat_map (requests_at n) (from_on first count))
unfolding IsFrom
times-ordered n first zero = tt
times-ordered n first (suc count) =
    let rest : List Request = flat_map (requests_at n) (from_on (suc first) count) in
    ordered-append (requests_at n first) rest (subst (λ ks. AreOrdered (requests_among n first ks)) (sym (all_threads n)) (among-ordered n first 1 n))
    (times-ordered n (suc first) count)
    (each-still (IsFrom first 1) (λ r. Each (IsBefore r) rest) (requests_at n first)
    (λ r h. each-still (λ s. suc first ≤ s.time) (IsBefore r) rest (λ s late. inl (subst (λ t. t < s.time) (sym h.0) late))
    (times-from n (suc first) (suc first) count (le_refl (suc first))))
    (at-from n first))

-- UP TO A HORIZON
own-until : (n until : ℕ) → until ≤ 10000 → Each (IsOwn n) (flat_map (requests_at n) (from_to 0 (suc until)))
own-until n until within = subst (λ ts. Each (IsOwn n) (flat_map (requests_at n) ts)) (sym (all_times until))
    (times-own n 0 (suc until) (omega (arith, within)))

among-until : (n until : ℕ) (r : Request) → 1 ≤ n → r.time ≤ until → IsOwn n r → IsAmong r (flat_map (requests_at n) (from_to 0 (suc until)))
among-until n until r some within h = subst (λ ts. IsAmong r (flat_map (requests_at n) ts)) (sym (all_times until))
    (own-among n until r some within h)

ordered-until : (n until : ℕ) → AreOrdered (flat_map (requests_at n) (from_to 0 (suc until)))
ordered-until n until = subst (λ ts. AreOrdered (flat_map (requests_at n) ts)) (sym (all_times until)) (times-ordered n 0 (suc until))

pub requests-held : (n : ℕ) → 1 ≤ n → HoldsAll n
requests-held n some = record {
  own = own-until n 10000 (le_refl 10000);
  all = λ r h. among-until n 10000 r some h.within h;
  ordered = ordered-until n 10000;
}
