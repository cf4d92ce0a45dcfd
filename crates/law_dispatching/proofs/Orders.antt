-- Order numbers matter only by the order of those of ready tasks of one active priority.
-- Two lists of numbers that rank these alike dispatch the same task, and go on doing so after each release, entry and exit.
use Rattle.std.specs.Prelude.{◌≡◌, ℕ, zero, suc, Bool, true, false, ◌||◌, ◌&&◌, List, [], ◌∷◌, set, nat_lt, ◌==◌, if◌then◌else◌, Some, ℤ, int_lt}
use Rattle.std.specs.Prelude.{⊤, refl}
use Rattle.std.proofs.Common.{ap, arith}
use Rattle.seq_tree.specs.Lists.{change}
use Rattle.machine.specs.States.{Task, Readiness, Asleep, Waiting, Ready}
use Rattle.machine.specs.Dispatch.{Candidate, goes_before, candidate_if, candidates, first_of, dispatched_of, dispatched}
use Rattle.law_dispatching.specs.Renumbering.{AreRivals}

-- two pairs of numbers stand in the same order
abbrev pub SameOrder : ℤ → ℤ → ℤ → ℤ → Type 0
SameOrder o x p y = (int_lt x o ≡ int_lt y p) × (int_lt o x ≡ int_lt p y)

-- a task and later ones are ranked alike by two lists of numbers
abbrev pub Beside : Task → ℤ → ℤ → List Task → List ℤ → List ℤ → Type 0
Beside t o p [] [] [] = ⊤
Beside t o p (u ∷ us) (x ∷ xs) (y ∷ ys) = (AreRivals t u → SameOrder o x p y) × Beside t o p us xs ys
Beside t o p _ _ _ = ⊥

abbrev pub Alike : List Task → List ℤ → List ℤ → Type 0
Alike [] [] [] = ⊤
Alike (t ∷ ts) (o ∷ os) (p ∷ ps) = Beside t o p ts os ps × Alike ts os ps
Alike _ _ _ = ⊥

-- candidates that are the same but for their numbers, and are ranked alike
abbrev pub Ranked : Candidate → Candidate → List Candidate → List Candidate → Type 0
Ranked c d [] [] = ⊤
Ranked c d (x ∷ xs) (y ∷ ys) = (goes_before x c ≡ goes_before y d) × Ranked c d xs ys
Ranked c d _ _ = ⊥

abbrev pub Twins : List Candidate → List Candidate → Type 0
Twins [] [] = ⊤
Twins (c ∷ cs) (d ∷ ds) = (c.task ≡ d.task) × Ranked c d cs ds × Twins cs ds
Twins _ _ = ⊥

-- they have the same first task
first-twins : (c d : Candidate) (cs ds : List Candidate) → c.task ≡ d.task → Ranked c d cs ds → Twins cs ds
    → (first_of c cs).task ≡ (first_of d ds).task
first-twins c d [] [] same ranked twins = same
first-twins c d [] (y ∷ ys) same ranked twins = absurd ranked
first-twins c d (x ∷ xs) [] same ranked twins = absurd ranked
first-twins c d (x ∷ xs) (y ∷ ys) same ranked twins =
    by_first (goes_before x c) (goes_before y d) ranked.0 (first-twins x y xs ys twins.0 twins.1 twins.2)
    (first-twins c d xs ys same ranked.1 twins.2)
  where
    by_first : (a b : Bool) → a ≡ b → (first_of x xs).task ≡ (first_of y ys).task → (first_of c xs).task ≡ (first_of d ys).task
        → (first_of (if a then x else c) xs).task ≡ (first_of (if b then y else d) ys).task
    by_first true true e later earlier = later
    by_first false false e later earlier = earlier
    by_first true false e later earlier = absurd cc
    by_first false true e later earlier = absurd cc

dispatched-twins : (cs ds : List Candidate) → Twins cs ds → dispatched_of cs ≡ dispatched_of ds
dispatched-twins [] [] twins = refl
dispatched-twins [] (d ∷ ds) twins = absurd twins
dispatched-twins (c ∷ cs) [] twins = absurd twins
dispatched-twins (c ∷ cs) (d ∷ ds) twins = ap Some (first-twins c d cs ds twins.0 twins.1 twins.2)

-- the candidates of tasks that are ranked alike
candidate : ℕ → Task → ℤ → Candidate
candidate n t o = record { task = n; active = t.active; order = o }

before-rivals : (n m : ℕ) (t u : Task) (o x p y : ℤ) → (t.active ≡ u.active → SameOrder o x p y)
    → goes_before (record { task = m; active = u.active; order = x }) (record { task = n; active = t.active; order = o })
    ≡ goes_before (record { task = m; active = u.active; order = y }) (record { task = n; active = t.active; order = p })
before-rivals n m t u o x p y same = by_active (u.active == t.active) refl
  where
    by_active : (b : Bool) → (u.active == t.active) ≡ b → (nat_lt t.active u.active || (b && int_lt x o))
        ≡ (nat_lt t.active u.active || (b && int_lt y p))
    by_active true e = let rivals : t.active ≡ u.active = grind arith in ap (λ k. nat_lt t.active u.active || k) ((same rivals).0)
    by_active false e = refl

ranked-candidates : (n m : ℕ) (t : Task) (o p : ℤ) (ts : List Task) (os ps : List ℤ) → t.readiness ≡ Ready → Beside t o p ts os ps
    → Ranked (record { task = n; active = t.active; order = o }) (record { task = n; active = t.active; order = p }) (candidates m ts os)
    (candidates m ts ps)
ranked-candidates n m t o p [] [] [] ready beside = tt
ranked-candidates n m t o p [] [] (y ∷ ys) ready beside = absurd beside
ranked-candidates n m t o p [] (x ∷ xs) ps ready beside = absurd beside
ranked-candidates n m t o p (u ∷ us) [] ps ready beside = absurd beside
ranked-candidates n m t o p (u ∷ us) (x ∷ xs) [] ready beside = absurd beside
ranked-candidates n m t o p (u ∷ us) (x ∷ xs) (y ∷ ys) ready beside =
    by_ready u.readiness refl (ranked-candidates n (suc m) t o p us xs ys ready beside.1)
  where
    by_ready : (r : Readiness) → u.readiness ≡ r
        → Ranked (record { task = n; active = t.active; order = o }) (record { task = n; active = t.active; order = p }) (candidates (suc m) us xs)
        (candidates (suc m) us ys)
        → Ranked (record { task = n; active = t.active; order = o }) (record { task = n; active = t.active; order = p })
        (candidate_if r (record { task = m; active = u.active; order = x }) (candidates (suc m) us xs))
        (candidate_if r (record { task = m; active = u.active; order = y }) (candidates (suc m) us ys))
    by_ready Ready e others = (before-rivals n m t u o x p y (λ same. beside.0 (ready, e, same)), others)
    by_ready Waiting e others = others
    by_ready (Asleep until) e others = others

twins-candidates : (n : ℕ) (ts : List Task) (os ps : List ℤ) → Alike ts os ps → Twins (candidates n ts os) (candidates n ts ps)
twins-candidates n [] [] [] alike = tt
twins-candidates n [] [] (p ∷ ps) alike = absurd alike
twins-candidates n [] (o ∷ os) ps alike = absurd alike
twins-candidates n (t ∷ ts) [] ps alike = absurd alike
twins-candidates n (t ∷ ts) (o ∷ os) [] alike = absurd alike
twins-candidates n (t ∷ ts) (o ∷ os) (p ∷ ps) alike = by_ready t.readiness refl (twins-candidates (suc n) ts os ps alike.1)
  where
    by_ready : (r : Readiness) → t.readiness ≡ r → Twins (candidates (suc n) ts os) (candidates (suc n) ts ps)
        → Twins (candidate_if r (record { task = n; active = t.active; order = o }) (candidates (suc n) ts os))
        (candidate_if r (record { task = n; active = t.active; order = p }) (candidates (suc n) ts ps))
    by_ready Ready e others = (refl, ranked-candidates n (suc n) t o p ts os ps e alike.0, others)
    by_ready Waiting e others = others
    by_ready (Asleep until) e others = others

-- numbers that rank alike dispatch the same task
pub dispatched-alike : (ts : List Task) (os ps : List ℤ) → Alike ts os ps → dispatched ts os ≡ dispatched ts ps
dispatched-alike ts os ps alike = dispatched-twins (candidates 0 ts os) (candidates 0 ts ps) (twins-candidates 0 ts os ps alike)

-- a number that stands to some numbers as another does to others
abbrev pub SameAll : ℤ → ℤ → List ℤ → List ℤ → Type 0
SameAll v w [] [] = ⊤
SameAll v w (x ∷ xs) (y ∷ ys) = (int_lt x v ≡ int_lt y w) × (int_lt v x ≡ int_lt w y) × SameAll v w xs ys
SameAll v w _ _ = ⊥

pub beside-new : (t u : Task) (o p v w : ℤ) (ts : List Task) (os ps : List ℤ) → Beside t o p ts os ps → SameAll v w os ps → Beside u v w ts os ps
beside-new t u o p v w [] [] [] beside same = tt
beside-new t u o p v w [] [] (y ∷ ys) beside same = absurd beside
beside-new t u o p v w [] (x ∷ xs) ps beside same = absurd beside
beside-new t u o p v w (a ∷ us) [] ps beside same = absurd beside
beside-new t u o p v w (a ∷ us) (x ∷ xs) [] beside same = absurd beside
beside-new t u o p v w (a ∷ us) (x ∷ xs) (y ∷ ys) beside same = (λ rivals. (same.0, same.1), beside-new t u o p v w us xs ys beside.1 same.2)

pub beside-set : (i : ℕ) (f : Task → Task) (t : Task) (o p v w : ℤ) (ts : List Task) (os ps : List ℤ) → Beside t o p ts os ps → SameOrder o v p w
    → Beside t o p (change i f ts) (set os i v) (set ps i w)
beside-set i f t o p v w [] [] [] beside same = tt
beside-set i f t o p v w [] [] (y ∷ ys) beside same = absurd beside
beside-set i f t o p v w [] (x ∷ xs) ps beside same = absurd beside
beside-set i f t o p v w (a ∷ us) [] ps beside same = absurd beside
beside-set i f t o p v w (a ∷ us) (x ∷ xs) [] beside same = absurd beside
beside-set zero f t o p v w (a ∷ us) (x ∷ xs) (y ∷ ys) beside same = (λ rivals. same, beside.1)
beside-set (suc i) f t o p v w (a ∷ us) (x ∷ xs) (y ∷ ys) beside same = (beside.0, beside-set i f t o p v w us xs ys beside.1 same)

-- a task that goes behind all others or before them, changed as it may be, leaves the numbers ranked alike
pub alike-set : (i : ℕ) (f : Task → Task) (v w : ℤ) (ts : List Task) (os ps : List ℤ) → Alike ts os ps → SameAll v w os ps
    → Alike (change i f ts) (set os i v) (set ps i w)
alike-set i f v w [] [] [] alike same = tt
alike-set i f v w [] [] (p ∷ ps) alike same = absurd alike
alike-set i f v w [] (o ∷ os) ps alike same = absurd alike
alike-set i f v w (t ∷ ts) [] ps alike same = absurd alike
alike-set i f v w (t ∷ ts) (o ∷ os) [] alike same = absurd alike
alike-set zero f v w (t ∷ ts) (o ∷ os) (p ∷ ps) alike same = (beside-new t (f t) o p v w ts os ps alike.0 same.2, alike.1)
alike-set (suc i) f v w (t ∷ ts) (o ∷ os) (p ∷ ps) alike same =
    (beside-set i f t o p v w ts os ps alike.0 (same.1, same.0), alike-set i f v w ts os ps alike.1 same.2)
