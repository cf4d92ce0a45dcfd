-- Each tick is used at one step of the run, and the steps of a window of ticks have no other users than the window.
use Rattle.std.specs.Prelude.{◌≡◌, ◌⊎◌, ℕ, zero, suc, ◌+◌, ◌<◌, Bool, true, false, not, List, [], ◌∷◌, ◌++◌, length, filter, take, drop}
use Rattle.std.specs.Prelude.{slice_get, Option, Some, if◌then◌else◌, refl}
use Rattle.std.proofs.Common.{sym, ◌∙◌, ap, arith, inl, inr, append_assoc}
use Rattle.std.proofs.lemmas.Bool.{true≢false, false≢true}
use Rattle.std.proofs.lemmas.List.{length-append}
use Rattle.machine.specs.Systems.{System}
use Rattle.machine.specs.States.{State, Phase, Effects, Delays, Arriving, Use}
use Rattle.machine.specs.Dispatch.{dispatched}
use Rattle.machine.specs.Steps.{step}
use Rattle.machine.specs.Meanings.{run}
use Rattle.law_ceilings.specs.Limits.{is_of_level, others_in, others, IsPendingIn, IsPendingThrough}
use Rattle.law_responses.proofs.Stepping.{users_in, step_users, run_users}

-- the users of so many steps and more
pub users-add : (y : System) (n m : ℕ) (s : State) → run_users y (n + m) s ≡ run_users y n s ++ run_users y m (run y n s).0
users-add y zero m s = let e : 0 + m ≡ m = omega arith in ap (λ k. run_users y k s) e
users-add y (suc n) m s =
    let e : suc n + m ≡ suc (n + m) = omega arith in
    ap (λ k. run_users y k s) e ∙ ap (λ us. step_users s ++ us) (users-add y n m (step y s).0)
    ∙ sym (append_assoc (step_users s) (run_users y n (step y s).0) (run_users y m (run y n (step y s).0).0))

-- the step at which a tick is used
pub record IsUse (y : System) (s : State) (bound t : ℕ) : Type 0 where
  pub steps : ℕ
  pub within : steps < bound
  pub goes_on : (run y steps s).0.stopped ≡ false
  pub phase : (run y steps s).0.phase ≡ Use
  pub before : length (run_users y steps s) ≡ t

one-user : (s : State) → (length (step_users s) ≡ 0) ⊎ ((s.stopped ≡ false) × (s.phase ≡ Use) × (length (step_users s) ≡ 1))
one-user s = by s.stopped refl
  where
    by_phase : (p : Phase) → s.phase ≡ p → (length (users_in p s) ≡ 0) ⊎ ((s.phase ≡ Use) × (length (users_in p s) ≡ 1))
    by_phase Effects e = inl refl
    by_phase Delays e = inl refl
    by_phase Arriving e = inl refl
    by_phase Use e = inr (e, refl)

    by : (b : Bool) → s.stopped ≡ b → (length (if b then [] else users_in s.phase s) ≡ 0)
        ⊎ ((s.stopped ≡ false) × (s.phase ≡ Use) × (length (if b then [] else users_in s.phase s) ≡ 1))
    by true e = inl refl
    by false e = elim (by_phase s.phase refl) [ inl none ↦ inl none | inr some ↦ inr (e, some.0, some.1) ]

pub use-at : (y : System) (m : ℕ) (s : State) (t : ℕ) → t < length (run_users y m s) → IsUse y s m t
use-at y zero s t inside = absurd (omega (arith, inside))
use-at y (suc m) s t inside = by (one-user s) (length-append (step_users s) (run_users y m (step y s).0)) (λ u less. use-at y m (step y s).0 u less)
  where
    later : (u : ℕ) → length (step_users s) + u ≡ t → IsUse y (step y s).0 m u → IsUse y s (suc m) t
    later u sum is =
        let w : is.steps < m = is.within in
        let b : length (run_users y is.steps (step y s).0) ≡ u = is.before in
        record {
          steps = suc is.steps;
          within = omega (arith, w);
          goes_on = is.goes_on;
          phase = is.phase;
          before = length-append (step_users s) (run_users y is.steps (step y s).0) ∙ (let e : length (step_users s)
              + length (run_users y is.steps (step y s).0) ≡ t = omega (arith, b, sum) in e);
        }

    by : (length (step_users s) ≡ 0) ⊎ ((s.stopped ≡ false) × (s.phase ≡ Use) × (length (step_users s) ≡ 1))
        → length (step_users s ++ run_users y m (step y s).0) ≡ length (step_users s) + length (run_users y m (step y s).0)
        → ((u : ℕ) → u < length (run_users y m (step y s).0) → IsUse y (step y s).0 m u) → IsUse y s (suc m) t
    by (inl none) count rest = later t (omega (arith, none)) (rest t (omega (arith, inside, count, none)))
    by (inr some) count rest = by_tick t refl
      where
        by_tick : (x : ℕ) → t ≡ x → IsUse y s (suc m) t
        by_tick zero e = record { steps = 0; within = omega arith; goes_on = some.0; phase = some.1; before = sym e }
        by_tick (suc x) e = later x (omega (arith, some.2, e)) (rest x (omega (arith, inside, count, some.2, e)))

-- the users that are of no level are the others
others-users : (y : System) (level n : ℕ) (s : State) → others y level n s ≡ length (filter (λ u. not (is_of_level y level u)) (run_users y n s))
others-users y level zero s = refl
others-users y level (suc n) s = by s.stopped (others-users y level n (step y s).0)
  where
    test : Option ℕ → Bool
    test u = not (is_of_level y level u)

    by_user : (b : Bool) → (rest : List (Option ℕ)) (u : Option ℕ) → is_of_level y level u ≡ b
        → (if b then 0 else 1) + length (filter (λ x. not (is_of_level y level x)) rest)
        ≡ length (if not b then u ∷ filter (λ x. not (is_of_level y level x)) rest else filter (λ x. not (is_of_level y level x)) rest)
    by_user true rest u e = omega arith
    by_user false rest u e = omega arith

    by_phase : (p : Phase) → others y level n (step y s).0 ≡ length (filter (λ u. not (is_of_level y level u)) (run_users y n (step y s).0))
        → others_in y level p s + others y level n (step y s).0
        ≡ length (filter (λ u. not (is_of_level y level u)) (users_in p s ++ run_users y n (step y s).0))
    by_phase Effects h = omega (arith, h)
    by_phase Delays h = omega (arith, h)
    by_phase Arriving h = omega (arith, h)
    by_phase Use h =
        ap (λ k. (if is_of_level y level (dispatched s.tasks s.orders) then 0 else 1) + k) h
        ∙ by_user (is_of_level y level (dispatched s.tasks s.orders)) (run_users y n (step y s).0) (dispatched s.tasks s.orders) refl

    by : (b : Bool) → others y level n (step y s).0 ≡ length (filter (λ u. not (is_of_level y level u)) (run_users y n (step y s).0))
        → (if b then 0 else others_in y level s.phase s) + others y level n (step y s).0
        ≡ length (filter (λ u. not (is_of_level y level u)) ((if b then [] else users_in s.phase s) ++ run_users y n (step y s).0))
    by true h = omega (arith, h)
    by false h = by_phase s.phase h

pub others-are : (y : System) (level n : ℕ) (s : State) → others y level n s ≡ length (filter (λ u. not (is_of_level y level u)) (run_users y n s))
others-are = others-users

-- a window of a list that is made of three parts is the middle one
pub take-middle : {A : Type 0} (xs ys zs : List A) (n m : ℕ) → n ≡ length xs → m ≡ length ys → take m (drop n (xs ++ (ys ++ zs))) ≡ ys
take-middle [] [] zs zero zero e g = refl
take-middle [] [] zs zero (suc m) e g = absurd (omega (arith, g))
take-middle [] (y ∷ ys) zs zero zero e g = absurd (omega (arith, g))
take-middle [] (y ∷ ys) zs zero (suc m) e g = ap (λ xs. y ∷ xs) (take-middle [] ys zs zero m refl (omega (arith, g)))
take-middle [] ys zs (suc n) m e g = absurd (omega (arith, e))
take-middle (x ∷ xs) ys zs zero m e g = absurd (omega (arith, e))
take-middle (x ∷ xs) ys zs (suc n) m e g = take-middle xs ys zs n m (omega (arith, e)) g

-- two lists whose items pass tests alike have windows with as many that pass
pub count-alike : {A B : Type 0} (p : A → Bool) (q : B → Bool) (xs : List A) (ys : List B) → length xs ≡ length ys
    → ((k : ℕ) (x : A) (y : B) → slice_get xs k ≡ Some x → slice_get ys k ≡ Some y → p x ≡ q y) → length (filter p xs) ≡ length (filter q ys)
count-alike p q [] [] e same = refl
count-alike p q [] (y ∷ ys) e same = absurd (omega (arith, e))
count-alike p q (x ∷ xs) [] e same = absurd (omega (arith, e))
count-alike p q (x ∷ xs) (y ∷ ys) e same
    = by (p x) (q y) (same 0 x y refl refl) (count-alike p q xs ys (omega (arith, e)) (λ k a b g h. same (suc k) a b g h))
  where
    by : (a b : Bool) → a ≡ b → length (filter p xs) ≡ length (filter q ys) → length (if a then x ∷ filter p xs else filter p xs)
        ≡ length (if b then y ∷ filter q ys else filter q ys)
    by true true g h = omega (arith, h)
    by false false g h = h
    by true false g h = absurd (true≢false g)
    by false true g h = absurd (false≢true g)

pub length-window : {A B : Type 0} (n m : ℕ) (xs : List A) (ys : List B) → length xs ≡ length ys
    → length (take m (drop n xs)) ≡ length (take m (drop n ys))
length-window zero zero [] [] e = refl
length-window zero (suc m) [] [] e = refl
length-window (suc n) zero [] [] e = refl
length-window (suc n) (suc m) [] [] e = refl
length-window n m [] (y ∷ ys) e = absurd (omega (arith, e))
length-window n m (x ∷ xs) [] e = absurd (omega (arith, e))
length-window zero zero (x ∷ xs) (y ∷ ys) e = refl
length-window zero (suc m) (x ∷ xs) (y ∷ ys) e = ap suc (length-window zero m xs ys (omega (arith, e)))
length-window (suc n) m (x ∷ xs) (y ∷ ys) e = length-window n m xs ys (omega (arith, e))

pub get-window : {A : Type 0} (n m : ℕ) (xs : List A) (k : ℕ) (x : A) → slice_get (take m (drop n xs)) k ≡ Some x → slice_get xs (n + k) ≡ Some x
get-window zero zero [] k x e = cc
get-window zero (suc m) [] k x e = cc
get-window (suc n) zero [] k x e = cc
get-window (suc n) (suc m) [] k x e = cc
get-window zero zero (y ∷ xs) k x e = cc
get-window zero (suc m) (y ∷ xs) zero x e = let z : 0 + 0 ≡ 0 = omega arith in ap (slice_get (y ∷ xs)) z ∙ e
get-window zero (suc m) (y ∷ xs) (suc k) x e =
    let z : 0 + suc k ≡ suc (0 + k) = omega arith in ap (slice_get (y ∷ xs)) z ∙ get-window zero m xs k x e
get-window (suc n) m (y ∷ xs) k x e = let z : suc n + k ≡ suc (n + k) = omega arith in ap (slice_get (y ∷ xs)) z ∙ get-window n m xs k x e

-- a level that is pending at each step of a run is pending through it
pub pending-through : (y : System) (level n : ℕ) (s : State)
    → ((k : ℕ) → k < n → (run y k s).0.stopped ≡ false → IsPendingIn y level (run y k s).0.phase (run y k s).0) → IsPendingThrough y level n s
pending-through y level zero s h = tt
pending-through y level (suc n) s h = (h 0 (omega arith), pending-through y level n (step y s).0 (λ k less. h (suc k) (omega (arith, less))))
