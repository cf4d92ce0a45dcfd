-- The requests of a sample: each is at a time within the horizon, of one of the threads, and there are few.
use Rattle.std.proofs.Common.{◌≡◌, ℕ, zero, suc, ◌+◌, ◌*◌, ◌/◌, ◌%◌, ◌≤◌, Bool, true, false, ◌&&◌, List, [], ◌∷◌, ◌++◌, map, length, filter}
use Rattle.std.proofs.Common.{flat_map, refl, sym, ap, subst, ◌∙◌, arith, le_refl, length-append}
use Rattle.std.specs.Prelude.{◌==◌, nat_lt, decimal, codes, if◌then◌else◌}
use Rattle.std.proofs.lemmas.Fmt.{length-decimal-le}
use Rattle.std.proofs.Math.Nat.{div-le_self, mul-le-mul_right}
use Rattle.seq_tree.specs.Lists.{Each}
use Rattle.sample_design.specs.Requests.{Request, is_due, request_at, request_line, request_lines, requests_among, requests_at}
use Rattle.sample_design.specs.Samples.{from_on, from_to, is_sporadic, thread_time, two_digits}
use Rattle.law_samples.proofs.Multiples.{multiples, few_from_none}
use Rattle.law_samples.proofs.Numbers.{from_to-all}

pub each-append : {A : Type 0} (P : A → Type 0) (xs ys : List A) → Each P xs → Each P ys → Each P (xs ++ ys)
each-append P [] ys h k = k
each-append P (x ∷ xs) ys h k = (h.0, each-append P xs ys h.1 k)

-- the threads of a sample, and the times up to the horizon
pub all_threads : (n : ℕ) → from_to 1 (n + 1) ≡ from_on 1 n
all_threads n = let same : n + 1 ≡ 1 + n = omega arith in ap (λ end. from_to 1 end) same ∙ from_to-all 1 n

pub all_times : (until : ℕ) → from_to 0 (suc until) ≡ from_on 0 (suc until)
all_times until = let same : suc until ≡ 0 + suc until = omega arith in ap (λ end. from_to 0 end) same ∙ from_to-all 0 (suc until)

-- a request at a time within a horizon, of one of so many threads
pub record IsRight (until n : ℕ) (r : Request) : Type 0 where
  pub time : r.time ≤ until
  pub first : 1 ≤ r.thread
  pub last : r.thread ≤ n
  pub value : r.value ≤ r.time

pub among-right : (until n time first count : ℕ) → time ≤ until → 1 ≤ first → first + count ≤ suc n
    → Each (IsRight until n) (requests_among n time (from_on first count))
among-right until n time first zero h low high = tt
among-right until n time first (suc count) h low high =
    by (is_due n time first) (among-right until n time (suc first) count h (omega arith) (omega (arith, high)))
  where
    right : IsRight until n (request_at n time first)
    right = record { time = h; first = low; last = omega (arith, high); value = div-le_self time (thread_time n first) }

    by : (due : Bool) → Each (IsRight until n) (requests_among n time (from_on (suc first) count))
        → Each (IsRight until n) (map (request_at n time) (if due then first ∷ filter (is_due n time) (from_on (suc first) count) else filter
        (is_due n time) (from_on (suc first) count)))
    by true rest = (right, rest)
    by false rest = rest

pub at-right : (until n time : ℕ) → time ≤ until → Each (IsRight until n) (requests_at n time)
at-right until n time h =
    subst (λ ks. Each (IsRight until n) (requests_among n time ks)) (sym (all_threads n)) (among-right until n time 1 n h (le_refl 1) (omega arith))

times-right : (until n first count : ℕ) → first + count ≤ suc until → Each (IsRight until n) (flat_map (requests_at n) (from_on first count))
times-right until n first zero h = tt
times-right until n first (suc count) h =
    each-append (IsRight until n) (requests_at n first) _ (at-right until n first (omega (arith, h)))
    (times-right until n (suc first) count (omega (arith, h)))

pub requests-right : (until n : ℕ) → Each (IsRight until n) (flat_map (requests_at n) (from_to 0 (suc until)))
requests-right until n =
    subst (λ ts. Each (IsRight until n) (flat_map (requests_at n) ts)) (sym (all_times until)) (times-right until n 0 (suc until) (omega arith))

-- THE NUMBER OF REQUESTS
-- at some times, of some threads
abbrev count_of : ℕ → List ℕ → List ℕ → ℕ
count_of n ks ts = length (flat_map (λ t. requests_among n t ks) ts)

-- of one thread at some times
abbrev own_count : ℕ → ℕ → List ℕ → ℕ
own_count n k ts = length (filter (λ t. is_due n t k) ts)

none-counted : (n : ℕ) (ts : List ℕ) → count_of n [] ts ≡ 0
none-counted n [] = refl
none-counted n (t ∷ ts) = none-counted n ts

-- thread by thread
counted : (n k : ℕ) (ks ts : List ℕ) → count_of n (k ∷ ks) ts ≡ own_count n k ts + count_of n ks ts
counted n k ks [] = refl
counted n k ks (t ∷ ts) =
    length-append (requests_among n t (k ∷ ks)) (flat_map (λ u. requests_among n u (k ∷ ks)) ts) ∙ by (is_due n t k) (counted n k ks ts)
    (length-append (requests_among n t ks) (flat_map (λ u. requests_among n u ks) ts))
  where
    by : (due : Bool) → count_of n (k ∷ ks) ts ≡ own_count n k ts + count_of n ks ts
        → count_of n ks (t ∷ ts) ≡ length (requests_among n t ks) + count_of n ks ts
        → length (map (request_at n t) (if due then k ∷ filter (is_due n t) ks else filter (is_due n t) ks)) + count_of n (k ∷ ks) ts
        ≡ length (if due then t ∷ filter (λ u. is_due n u k) ts else filter (λ u. is_due n u k) ts) + count_of n ks (t ∷ ts)
    by true rest joined = omega (arith, rest, joined)
    by false rest joined = omega (arith, rest, joined)

-- a thread is due at multiples alone
due-multiples : (n k : ℕ) (ts : List ℕ) → own_count n k ts ≤ length (multiples (thread_time n k) ts)
due-multiples n k ts = by (is_sporadic k) ts
  where
    by : (b : Bool) (ts : List ℕ) → length (filter (λ t. b && (t % thread_time n k == 0)) ts) ≤ length (multiples (thread_time n k) ts)
    by true ts = le_refl (length (multiples (thread_time n k) ts))
    by false [] = omega arith
    by false (t ∷ ts) = skip (t % thread_time n k == 0) (by false ts)
      where
        skip : (b : Bool) → length (filter (λ u. false && (u % thread_time n k == 0)) ts) ≤ length (multiples (thread_time n k) ts)
            → length (filter (λ u. false && (u % thread_time n k == 0)) ts)
            ≤ length (if b then t ∷ multiples (thread_time n k) ts else multiples (thread_time n k) ts)
        skip true less = omega (arith, less)
        skip false less = less

-- so each thread is requested at most 334 times up to a horizon of 10,000 ticks
few_each : (n k count : ℕ) → 1 ≤ n → 1 ≤ k → count ≤ 10000 → own_count n k (from_on 0 (suc count)) ≤ 334
few_each n k count some low within =
    by (own_count n k (from_on 0 (suc count))) (length (multiples (thread_time n k) (from_on 0 (suc count)))) (thread_time n k)
    (due-multiples n k (from_on 0 (suc count))) (few_from_none (thread_time n k) count (omega (arith, some))) (omega (arith, some, low))
  where
    by : (own all m : ℕ) → own ≤ all → m * all ≤ m + count → 30 ≤ m → own ≤ 334
    by own zero m h e long = omega (arith, h)
    by own (suc all) m h e long =
        let less : m * all ≤ count = omega (arith, e) in
        let least : 30 * all ≤ m * all = mul-le-mul_right all long in
        omega (arith, h, less, least, within)

few_counted : (n first ks count : ℕ) → 1 ≤ n → 1 ≤ first → count ≤ 10000 → count_of n (from_on first ks) (from_on 0 (suc count)) ≤ 334 * ks
few_counted n first zero count some low within = omega (arith, none-counted n (from_on 0 (suc count)))
few_counted n first (suc ks) count some low within =
    omega (
      arith,
      counted n first (from_on (suc first) ks) (from_on 0 (suc count)),
      few_each n first count some low within,
      few_counted n (suc
          first) ks count some (omega arith) within,
    )

pub few_requests : (n until : ℕ) → 1 ≤ n → until ≤ 10000 → length (flat_map (requests_at n) (from_to 0 (suc until))) ≤ 334 * n
few_requests n until some within =
    subst (λ ts. length (flat_map (requests_at n) ts) ≤ 334 * n) (sym (all_times until))
    (subst (λ ks. length (flat_map (λ t. requests_among n t ks) (from_on 0 (suc until))) ≤ 334 * n) (sym (all_threads n))
    (few_counted n 1 n until some (le_refl 1) within))

-- THE LENGTH OF THE LINES
short_digits : (k : ℕ) → length (two_digits k) ≤ 2
short_digits k = by (nat_lt k 10)
  where
    by : (b : Bool) → length (if b then (48 + k) ∷ [] else ((48 + k / 10) ∷ (48 + k % 10) ∷ [])) ≤ 2
    by true = omega arith
    by false = omega arith

line-short : (until n : ℕ) (r : Request) → until ≤ 10000 → IsRight until n r → length (request_line r) ≤ 20
line-short until n r within h =
    let time : length (decimal r.time) ≤ 5 = length-decimal-le 5 r.time (omega arith) (omega (arith, h.time, within))
    (omega (arith, h.time, within)) in
    let value : length (decimal r.value) ≤ 5 = length-decimal-le 5 r.value (omega arith) (omega (arith, h.value, h.time, within))
    (omega (arith, h.value, h.time, within)) in
    let name : length (two_digits r.thread) ≤ 2 = short_digits r.thread in
    let last : length (decimal r.value ++ codes ";\n") ≡ length (decimal r.value) + 2 = length-append (decimal r.value) (codes ";\n") in
    let middle : length (two_digits r.thread ++ (codes " " ++ (decimal r.value ++ codes ";\n")))
    ≡ length (two_digits r.thread) + suc (length (decimal r.value ++ codes ";\n"))
    = length-append (two_digits r.thread) (codes " " ++ (decimal r.value ++ codes ";\n")) in
    let first : length (decimal r.time ++ (codes " " ++ (116 ∷ (two_digits r.thread ++ (codes " " ++ (decimal r.value ++ codes ";\n"))))))
    ≡ length (decimal r.time) + suc (suc (length (two_digits r.thread ++ (codes " " ++ (decimal r.value ++ codes ";\n")))))
    = length-append (decimal r.time) (codes " " ++ (116 ∷ (two_digits r.thread ++ (codes " " ++ (decimal r.value ++ codes ";\n"))))) in
    omega (arith, time, value, name, last, middle, first)

pub lines-short : (until n : ℕ) (rs : List Request) → until ≤ 10000 → Each (IsRight until n) rs → length (request_lines rs) ≤ 20 * length rs
lines-short until n [] within h = omega arith
lines-short until n (r ∷ rs) within h =
    omega (arith, length-append (request_line r) (request_lines rs), line-short until n r within h.0, lines-short until n rs within h.1)
