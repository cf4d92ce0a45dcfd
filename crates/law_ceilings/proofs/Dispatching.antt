-- The task that is dispatched is ready, and no other ready task goes before it.
use Rattle.std.specs.Prelude.{◌≡◌, ◌⊎◌, ◌<◌, ◌+◌, ℕ, zero, suc, Bool, true, false, ◌||◌, ◌&&◌, ◌==◌, nat_lt, int_lt, List, [], ◌∷◌, Some, None}
use Rattle.std.specs.Prelude.{ℤ, ◌<ℤ◌, ◌≤ℤ◌, if◌then◌else◌, refl}
use Rattle.std.proofs.Common.{sym, ◌∙◌, ap, subst, arith, inl, inr}
use Rattle.std.proofs.lemmas.Int.{ints}
use Rattle.std.proofs.lemmas.Option.{none-some, same_Some}
use Rattle.seq_tree.specs.Lists.{Each}
use Rattle.machine.specs.States.{Task, Readiness, Asleep, Waiting, Ready}
use Rattle.machine.specs.Dispatch.{Candidate, goes_before, candidate_if, candidates, first_of, dispatched_of, dispatched}
use Rattle.law_ceilings.specs.Sections.{Stands, IsNumbered}

-- the first candidate doesn't go before the second
abbrev pub IsBehind : Candidate → Candidate → Type 0
IsBehind c d = (c.active < d.active) ⊎ ((c.active ≡ d.active) × (d.order ≤ℤ c.order))

before-true : (c d : Candidate) → goes_before c d ≡ true → (d.active < c.active) ⊎ ((c.active ≡ d.active) × (c.order <ℤ d.order))
before-true c d e = by (nat_lt d.active c.active) (c.active == d.active) (int_lt c.order d.order) refl refl refl e
  where
    by : (x y z : Bool) → nat_lt d.active c.active ≡ x → (c.active == d.active) ≡ y → int_lt c.order d.order ≡ z → (x || (y && z)) ≡ true
        → (d.active < c.active) ⊎ ((c.active ≡ d.active) × (c.order <ℤ d.order))
    by true y z hx hy hz h = inl (grind arith)
    by false true true hx hy hz h = inr (grind arith, omega (arith, ints))
    by false true false hx hy hz h = cc
    by false false z hx hy hz h = cc

before-false : (c d : Candidate) → goes_before c d ≡ false → IsBehind c d
before-false c d e = by (nat_lt d.active c.active) (c.active == d.active) (int_lt c.order d.order) refl refl refl e
  where
    by : (x y z : Bool) → nat_lt d.active c.active ≡ x → (c.active == d.active) ≡ y → int_lt c.order d.order ≡ z → (x || (y && z)) ≡ false
        → IsBehind c d
    by true y z hx hy hz h = cc
    by false true true hx hy hz h = cc
    by false true false hx hy hz h = inr (grind arith, omega (arith, ints))
    by false false z hx hy hz h = inl (grind arith)

behind-trans : (c d e : Candidate) → IsBehind c d → IsBehind d e → IsBehind c e
behind-trans c d e (inl h) (inl k) = inl (omega arith)
behind-trans c d e (inl h) (inr k) = inl (omega (arith, k.0))
behind-trans c d e (inr h) (inl k) = inl (omega (arith, h.0))
behind-trans c d e (inr h) (inr k) = inr (h.0 ∙ k.0, omega (arith, ints, h.1, k.1))

behind-self : (c : Candidate) → IsBehind c c
behind-self c = inr (refl, omega (arith, ints))

behind-before : (c d : Candidate) → goes_before d c ≡ true → IsBehind c d
behind-before c d e = by (before-true d c e)
  where
    by : (c.active < d.active) ⊎ ((d.active ≡ c.active) × (d.order <ℤ c.order)) → IsBehind c d
    by (inl h) = inl h
    by (inr h) = inr (sym h.0, omega (arith, ints, h.1))

each-behind : (c d : Candidate) (cs : List Candidate) → IsBehind c d → Each (λ x. IsBehind x c) cs → Each (λ x. IsBehind x d) cs
each-behind c d [] h each = tt
each-behind c d (x ∷ cs) h each = (behind-trans x c d each.0 h, each-behind c d cs h each.1)

-- the first of all goes behind none
first-each : (c : Candidate) (cs : List Candidate) → Each (λ x. IsBehind x (first_of c cs)) (c ∷ cs)
first-each c [] = (behind-self c, tt)
first-each c (d ∷ ds) = by (goes_before d c) refl (first-each d ds) (first-each c ds)
  where
    by : (b : Bool) → goes_before d c ≡ b → Each (λ x. IsBehind x (first_of d ds)) (d ∷ ds) → Each (λ x. IsBehind x (first_of c ds)) (c ∷ ds)
        → Each (λ x. IsBehind x (first_of (if b then d else c) ds)) (c ∷ d ∷ ds)
    by true e later earlier = (behind-trans c d (first_of d ds) (behind-before c d e) later.0, later)
    by false e later earlier = (earlier.0, (behind-trans d c (first_of c ds) (before-false d c e) earlier.0, earlier.1))

abbrev pub IsIn : Candidate → List Candidate → Type 0
IsIn x [] = ⊥
IsIn x (c ∷ cs) = (c ≡ x) ⊎ IsIn x cs

first-in : (c : Candidate) (cs : List Candidate) → IsIn (first_of c cs) (c ∷ cs)
first-in c [] = inl refl
first-in c (d ∷ ds) = by (goes_before d c) (first-in d ds) (first-in c ds)
  where
    by : (b : Bool) → IsIn (first_of d ds) (d ∷ ds) → IsIn (first_of c ds) (c ∷ ds) → IsIn (first_of (if b then d else c) ds) (c ∷ d ∷ ds)
    by true later earlier = inr later
    by false (later) (inl e) = inl e
    by false (later) (inr e) = inr (inr e)

-- the candidates are the ready tasks
candidate : ℕ → ℕ → ℤ → Candidate
candidate k active order = record { task = k; active = active; order = order }

-- a ready task with its place and order number
pub record IsCandidate (n : ℕ) (ts : List Task) (os : List ℤ) (x : Candidate) : Type 0 where
  pub place : ℕ
  pub task : Task
  pub stands : Stands ts place task
  pub ready : task.readiness ≡ Ready
  pub numbered : IsNumbered os place x.order
  pub at : x.task ≡ n + place
  pub active : x.active ≡ task.active

in-candidates : (n : ℕ) (ts : List Task) (os : List ℤ) (x : Candidate) → IsIn x (candidates n ts os) → IsCandidate n ts os x
in-candidates n [] os x h = absurd h
in-candidates n (t ∷ ts) [] x h = absurd h
in-candidates n (t ∷ ts) (o ∷ os) x h = by t.readiness refl h (in-candidates (suc n) ts os x)
  where
    later : IsCandidate (suc n) ts os x → IsCandidate n (t ∷ ts) (o ∷ os) x
    later c = record {
      place = suc c.place;
      task = c.task;
      stands = c.stands;
      ready = c.ready;
      numbered = c.numbered;
      at = let at : x.task ≡ suc n + c.place = c.at in omega arith;
      active = c.active;
    }

    by : (r : Readiness) → t.readiness ≡ r → IsIn x (candidate_if r (record { task = n; active = t.active; order = o }) (candidates (suc n) ts os))
        → (IsIn x (candidates (suc n) ts os) → IsCandidate (suc n) ts os x) → IsCandidate n (t ∷ ts) (o ∷ os) x
    by Ready e (inl is) rest = record {
      place = 0;
      task = t;
      stands = refl;
      ready = e;
      numbered = ap (λ c. Some c.order) is;
      at = let at : n ≡ x.task = ap (λ c. c.task) is in omega arith;
      active = sym (ap (λ c. c.active) is);
    }
    by Ready e (inr k) rest = later (rest k)
    by Waiting e k rest = later (rest k)
    by (Asleep until) e k rest = later (rest k)

each-candidates : (P : Candidate → Type 0) (n : ℕ) (ts : List Task) (os : List ℤ) → Each P (candidates n ts os)
    → (j k : ℕ) (u : Task) (p : ℤ) → k ≡ n + j → Stands ts j u → IsNumbered os j p → u.readiness ≡ Ready
    → P (record { task = k; active = u.active; order = p })
each-candidates P n [] os each j k u p at stands numbered ready = absurd (none-some u stands)
each-candidates P n (t ∷ ts) [] each j k u p at stands numbered ready = absurd (none-some p numbered)
each-candidates P n (t ∷ ts) (o ∷ os) each zero k u p at stands numbered ready =
    let same : t ≡ u = same_Some t u stands in
    let order : o ≡ p = same_Some o p numbered in
    let here : n ≡ k = omega arith in
    let first : P (record { task = n; active = t.active; order = o }) = by t.readiness (ap (λ x. x.readiness) same ∙ ready) each in
    subst P (ap (λ m. record { task = m; active = t.active; order = o }) here ∙ ap (λ x. record { task = k; active = x.active; order = o }) same ∙ ap
    (λ x. record { task = k; active = u.active; order = x }) order) first
  where
    by : (r : Readiness) → r ≡ Ready → Each P (candidate_if r (record { task = n; active = t.active; order = o }) (candidates (suc n) ts os))
        → P (record { task = n; active = t.active; order = o })
    by Ready e h = h.0
    by Waiting e h = absurd (no e)
      where
        no : Waiting ≡ Ready → ⊥
        no e' = cc
    by (Asleep until) e h = absurd (no e)
      where
        no : Asleep until ≡ Ready → ⊥
        no e' = cc
each-candidates P n (t ∷ ts) (o ∷ os) each (suc j) k u p at stands numbered ready =
    each-candidates P (suc n) ts os (rest t.readiness each) j k u p (omega arith) stands numbered ready
  where
    rest : (r : Readiness) → Each P (candidate_if r (record { task = n; active = t.active; order = o }) (candidates (suc n) ts os))
        → Each P (candidates (suc n) ts os)
    rest Ready h = h.1
    rest Waiting h = h
    rest (Asleep until) h = h

-- a ready task that no ready task goes before
pub record IsFirst (ts : List Task) (os : List ℤ) (i : ℕ) : Type 0 where
  pub task : Task
  pub order : ℤ
  pub stands : Stands ts i task
  pub ready : task.readiness ≡ Ready
  pub numbered : IsNumbered os i order
  pub first : (j : ℕ) (u : Task) (p : ℤ) → Stands ts j u → IsNumbered os j p → u.readiness ≡ Ready
      → (u.active < task.active) ⊎ ((u.active ≡ task.active) × (order ≤ℤ p))

pub dispatched-first : (ts : List Task) (os : List ℤ) (i : ℕ) → dispatched ts os ≡ Some i → IsFirst ts os i
dispatched-first ts os i e = by (candidates 0 ts os) refl e
  where
    by : (cs : List Candidate) → candidates 0 ts os ≡ cs → dispatched_of cs ≡ Some i → IsFirst ts os i
    by [] are e' = absurd (none-some i e')
    by (c ∷ cs) are e' =
        let x : Candidate = first_of c cs in
        let found = in-candidates 0 ts os x (subst (IsIn x) (sym are) (first-in c cs)) in
        let each : Each (λ z. IsBehind z x) (candidates 0 ts os) = subst (Each (λ z. IsBehind z x)) (sym are) (first-each c cs) in
        let is : found.place ≡ i = let at : x.task ≡ 0 + found.place = found.at in let same : x.task ≡ i = same_Some x.task i e' in omega arith in
        record {
          task = found.task;
          order = x.order;
          stands = subst (λ k. Stands ts k found.task) is found.stands;
          ready = found.ready;
          numbered = subst (λ k. IsNumbered os k x.order) is found.numbered;
          first = λ j u p stands numbered ready.
              let behind : IsBehind (record { task = j; active = u.active; order = p }) x
              = each-candidates (λ z. IsBehind z x) 0 ts os each j j u p (omega arith) stands numbered ready in
              subst (λ a. (u.active < a) ⊎ ((u.active ≡ a) × (x.order ≤ℤ p))) found.active behind;
        }

-- where a task is ready one is dispatched
pub dispatched-some : (ts : List Task) (os : List ℤ) (k : ℕ) (t : Task) (o : ℤ) → Stands ts k t → IsNumbered os k o → t.readiness ≡ Ready
    → dispatched ts os ≡ None → ⊥
dispatched-some ts os k t o stands numbered ready e = by (candidates 0 ts os) refl e
  where
    by : (cs : List Candidate) → candidates 0 ts os ≡ cs → dispatched_of cs ≡ None → ⊥
    by [] are e' = each-candidates (λ c. ⊥) 0 ts os (subst (Each (λ c. ⊥)) (sym are) tt) k k t o (omega arith) stands numbered ready
    by (c ∷ cs) are e' = none-some (first_of c cs).task (sym e')
