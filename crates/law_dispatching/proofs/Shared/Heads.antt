-- The first task of the ready list is the one that is dispatched.
use Rattle.std.specs.Prelude.{◌≡◌, ◌⊎◌, ℕ, zero, suc, ◌+◌, Bool, true, false, ◌||◌, ◌&&◌, ◌==◌, nat_lt, List, [], ◌∷◌, length, Some, option_map}
use Rattle.std.specs.Prelude.{slice_get, ℤ, int_lt, if◌then◌else◌, ⊤, refl}
use Rattle.std.proofs.Common.{sym, ◌∙◌, ap, subst, arith, inl, inr}
use Rattle.std.proofs.lemmas.Option.{none-some, same_Some}
use Rattle.std.proofs.lemmas.Bool.Decides.{nat_tests}
use Rattle.link_queue.specs.Queues.{Entry}
use Rattle.link_queue.proofs.Shared.Lists.{each-both}
use Rattle.machine.specs.States.{Task, Readiness, Asleep, Waiting, Ready}
use Rattle.machine.specs.Dispatch.{Candidate, goes_before, candidate_if, candidates, first_of, dispatched_of, dispatched}
use Rattle.law_dispatching.specs.Queueing.{AreQueued, IsIn, IsReadyAt, Precedes, number}
use Rattle.law_dispatching.proofs.Shared.Queued.{in-each, int-turn}

-- a candidate by its parts
abbrev cand : ℕ → ℕ → ℤ → Candidate
cand task active order = record { task = task; active = active; order = order }

-- what goes before all others
abbrev Best : Candidate → Candidate → Type 0
Best b d = (d ≡ b) ⊎ ((goes_before b d ≡ true) × (goes_before d b ≡ false))

abbrev AllBest : Candidate → List Candidate → Type 0
AllBest b [] = ⊤
AllBest b (d ∷ ds) = Best b d × AllBest b ds

abbrev IsAmong : Candidate → List Candidate → Type 0
IsAmong b [] = ⊥
IsAmong b (d ∷ ds) = (d ≡ b) ⊎ IsAmong b ds

first-best : (b c : Candidate) (cs : List Candidate) → Best b c → AllBest b cs → (c ≡ b) ⊎ IsAmong b cs → first_of c cs ≡ b
first-best b c [] best all (inl e) = e
first-best b c [] best all (inr h) = absurd h
first-best b c (d ∷ ds) best all among =
    by_first (goes_before d c) refl (first-best b c ds best all.1) (first-best b d ds all.0 all.1) among
  where
    by_first : (t : Bool) → goes_before d c ≡ t → ((c ≡ b) ⊎ IsAmong b ds → first_of c ds ≡ b) → ((d ≡ b) ⊎ IsAmong b ds → first_of d ds ≡ b)
        → (c ≡ b) ⊎ ((d ≡ b) ⊎ IsAmong b ds) → first_of (if t then d else c) ds ≡ b
    by_first true e keep take (inl is_c) = take (inl (is_best all.0))
      where
        is_best : Best b d → d ≡ b
        is_best (inl same) = same
        is_best (inr h) = let both : true ≡ false = sym e ∙ ap (goes_before d) is_c ∙ h.1 in absurd cc
    by_first true e keep take (inr among') = take among'
    by_first false e keep take (inl is_c) = keep (inl is_c)
    by_first false e keep take (inr (inl is_d)) = keep (inl (is_best best))
      where
        is_best : Best b c → c ≡ b
        is_best (inl same) = same
        is_best (inr h) = let both : true ≡ false = sym h.0 ∙ ap (λ z. goes_before z c) (sym is_d) ∙ e in absurd cc
    by_first false e keep take (inr (inr later)) = keep (inr later)

-- facts of all candidates from facts of all ready tasks
candidates-all : (b : Candidate) (n : ℕ) (ts : List Task) (os : List ℤ) → length os ≡ length ts
    → ((j : ℕ) (t : Task) → slice_get ts j ≡ Some t → t.readiness ≡ Ready → Best b (cand (n + j) t.active (number os j)))
    → AllBest b (candidates n ts os)
candidates-all b n [] os len h = tt
candidates-all b n (t ∷ ts) [] len h = tt
candidates-all b n (t ∷ ts) (o ∷ os) len h =
    by_ready t.readiness refl (candidates-all b (suc n) ts os (omega arith)
    (λ j u at is. subst (λ (k : ℕ). Best b (cand k u.active (number os j))) (omega arith) (h (suc j) u at is)))
  where
    by_ready : (r : Readiness) → t.readiness ≡ r → AllBest b (candidates (suc n) ts os)
        → AllBest b (candidate_if r (cand n t.active o) (candidates (suc n) ts os))
    by_ready Ready e others = (subst (λ (k : ℕ). Best b (cand k t.active o)) (omega arith) (h 0 t refl e), others)
    by_ready Waiting e others = others
    by_ready (Asleep until) e others = others

candidates-among : (n : ℕ) (ts : List Task) (os : List ℤ) (i : ℕ) (t : Task) → length os ≡ length ts → slice_get ts i ≡ Some t → t.readiness ≡ Ready
    → IsAmong (cand (n + i) t.active (number os i)) (candidates n ts os)
candidates-among n [] os i t len at is = absurd (none-some t at)
candidates-among n (u ∷ ts) [] i t len at is = absurd (none (length ts) (sym len))
  where
    none : (k : ℕ) → suc k ≡ 0 → ⊥
    none k e = omega arith
candidates-among n (u ∷ ts) (o ∷ os) zero t len at is =
    subst (λ (r : Readiness). IsAmong (cand (n + 0) t.active o) (candidate_if r (cand n u.active o) (candidates (suc n) ts os)))
    (sym (ap (λ v. v.readiness) same ∙ is))
    (inl (ap (λ k. cand k u.active o) here ∙ ap (λ v. cand (n + 0) v.active o) same))
  where
    same : u ≡ t
    same = same_Some u t at

    here : n ≡ n + 0
    here = omega arith
candidates-among n (u ∷ ts) (o ∷ os) (suc i) t len at is =
    by_ready u.readiness (subst (λ (k : ℕ). IsAmong (cand k t.active (number os i)) (candidates (suc n) ts os)) there
    (candidates-among (suc n) ts os i t (omega arith) at is))
  where
    there : suc n + i ≡ n + suc i
    there = omega arith

    by_ready : (r : Readiness) → IsAmong (cand (n + suc i) t.active (number os i)) (candidates (suc n) ts os)
        → IsAmong (cand (n + suc i) t.active (number os i)) (candidate_if r (cand n u.active o) (candidates (suc n) ts os))
    by_ready Ready among = inr among
    by_ready Waiting among = among
    by_ready (Asleep until) among = among

-- a list whose members are all best
dispatched-best : (b : Candidate) (cs : List Candidate) → AllBest b cs → IsAmong b cs → dispatched_of cs ≡ Some b.task
dispatched-best b [] all among = absurd among
dispatched-best b (c ∷ cs) all among = ap (λ d. Some d.task) (first-best b c cs all.0 all.1 among)

-- one that precedes goes before, and not the other way round
precedes-before : (os : List ℤ) (x y : Entry) → Precedes os x y
    → (goes_before (cand x.0 x.1 (number os x.0)) (cand y.0 y.1 (number os y.0)) ≡ true)
    × (goes_before (cand y.0 y.1 (number os y.0)) (cand x.0 x.1 (number os x.0)) ≡ false)
precedes-before os x y (inl a) =
    let up : nat_lt y.1 x.1 ≡ true = grind (arith, nat_tests) in
    let down : nat_lt x.1 y.1 ≡ false = grind (arith, nat_tests) in
    let apart : (y.1 == x.1) ≡ false = grind (arith, nat_tests) in (
      ap (λ p. p || (x.1 == y.1 && int_lt (number os x.0) (number os y.0))) up,
      ap (λ p. p || (y.1 == x.1 && int_lt (number os y.0) (number os x.0))) down ∙ ap (λ p. p && int_lt (number os y.0) (number os x.0)) apart,
    )
precedes-before os x y (inr a) =
    let up : nat_lt y.1 x.1 ≡ false = equal y.1 x.1 (sym a.0) in
    let down : nat_lt x.1 y.1 ≡ false = equal x.1 y.1 a.0 in
    let same : (x.1 == y.1) ≡ true = same_test x.1 y.1 a.0 in
    let same' : (y.1 == x.1) ≡ true = same_test y.1 x.1 (sym a.0) in (
      ap (λ p. p || (x.1 == y.1 && int_lt (number os x.0) (number os y.0))) up ∙ ap (λ p. p && int_lt (number os x.0) (number os y.0)) same ∙ a.1,
      ap (λ p. p || (y.1 == x.1 && int_lt (number os y.0) (number os x.0))) down ∙ ap (λ p. p
          && int_lt (number os y.0) (number os x.0)) same' ∙ int-turn (number os x.0) (number os y.0) a.1,
    )
  where
    equal : (m n : ℕ) → m ≡ n → nat_lt m n ≡ false
    equal m n e = grind (arith, nat_tests)

    same_test : (m n : ℕ) → m ≡ n → (m == n) ≡ true
    same_test m n e = grind (arith, nat_tests)

-- no task is ready where the list has none
none-ready : (ts : List Task) (n : ℕ) (os : List ℤ) → ((i : ℕ) (t : Task) → slice_get ts i ≡ Some t → t.readiness ≡ Ready → ⊥)
    → candidates n ts os ≡ []
none-ready [] n os none = refl
none-ready (t ∷ ts) n [] none = refl
none-ready (t ∷ ts) n (o ∷ os) none = by_ready t.readiness refl (none-ready ts (suc n) os (λ i u at is. none (suc i) u at is))
  where
    by_ready : (r : Readiness) → t.readiness ≡ r → candidates (suc n) ts os ≡ [] → candidate_if r (cand n t.active o) (candidates (suc n) ts os) ≡ []
    by_ready Ready e others = absurd (none 0 t refl e)
    by_ready Waiting e others = others
    by_ready (Asleep until) e others = others

pub dispatched-head : (ts : List Task) (os : List ℤ) (ready : List Entry) → AreQueued ts os ready
    → dispatched ts os ≡ option_map (λ e. e.0) (slice_get ready 0)
dispatched-head ts os [] q = ap dispatched_of (none-ready ts 0 os (λ i t at is. q.all i t at is))
dispatched-head ts os (e ∷ es) q =
    let b : Candidate = cand e.0 e.1 (number os e.0) in
    let all : AllBest b (candidates 0 ts os) =
    candidates-all b 0 ts os q.numbered (λ j t at is. subst (λ (k : ℕ). Best b (cand k t.active (number os j))) (omega arith)
    (best j t at (q.all j t at is))) in
    let among : IsAmong b (candidates 0 ts os) =
    subst (λ (c : Candidate). IsAmong c (candidates 0 ts os)) (ap (λ l. cand e.0 l (number os e.0)) q.each.0.3)
    (subst (λ (k : ℕ). IsAmong (cand k q.each.0.0.active (number os e.0)) (candidates 0 ts os)) (omega arith)
    (candidates-among 0 ts os e.0 q.each.0.0 q.numbered q.each.0.1 q.each.0.2)) in
    dispatched-best b (candidates 0 ts os) all among
  where
    level : (x : Entry) (j : ℕ) (t : Task) → slice_get ts j ≡ Some t → j ≡ x.0 → IsReadyAt ts x
        → cand x.0 x.1 (number os x.0) ≡ cand j t.active (number os j)
    level x j t at same h =
        ap (λ k. cand k x.1 (number os k)) (sym same) ∙ ap (λ l. cand j l (number os j))
        (sym h.3 ∙ ap (λ u. u.active) (same_Some h.0 t (sym h.1 ∙ ap (slice_get ts) (sym same) ∙ at)))

    best : (j : ℕ) (t : Task) → slice_get ts j ≡ Some t → IsIn j (e ∷ es) → Best (cand e.0 e.1 (number os e.0)) (cand j t.active (number os j))
    best j t at (inl same) = inl (sym (level e j t at same q.each.0))
    best j t at (inr later) =
        let x : (x : Entry) × (j ≡ x.0) × (Precedes os e x × IsReadyAt ts x)
        = in-each (λ x. Precedes os e x × IsReadyAt ts x) j es later (each-both (Precedes os e) (IsReadyAt ts) es q.ordered.0 q.each.1) in
        subst (λ (c : Candidate). Best (cand e.0 e.1 (number os e.0)) c) (level x.0 j t at x.1 x.2.1) (inr (precedes-before os e x.0 x.2.0))
