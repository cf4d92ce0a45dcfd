-- Two lists whose items are alike in pairs: the steps of a thread, their depths and what is inside an operation don't depend on the ways.
use Rattle.std.proofs.Common.{◌≡◌, ℕ, zero, suc, Bool, true, false, ◌&&◌, List, [], ◌∷◌, ◌++◌, map, drop, Option, Some, None, refl, ap}
use Rattle.std.proofs.Common.{subst, ◌∙◌}
use Rattle.std.specs.Prelude.{◌==◌, filter, filter_map, ⊤, if◌then◌else◌}
use Rattle.std.specs.List.{cons_option}
use Rattle.seq_tree.specs.Names.{Name, same_name}
use Rattle.seq_tree.specs.Runs.{Path}
use Rattle.guarantee.specs.Events.{Deed, Release, Arrive, Enter, Leave, Request, Print, End, Stop, Event, By, Horizon}
use Rattle.guarantee.specs.Steps.{Moment, Step, Placed, moments, step_by, is_own, steps_of, depth_after, depth_of, placed, outermost, closes}
use Rattle.guarantee.specs.Steps.{before_leave, inside}
use Rattle.guarantee.specs.Scripts.{Activation, Activations, grouped_by, grouped}

-- items that are alike in pairs
abbrev pub Pairs : {A B : Type 0} → (A → B → Type 0) → List A → List B → Type 0
Pairs R [] [] = ⊤
Pairs R (x ∷ xs) (y ∷ ys) = R x y × Pairs R xs ys
Pairs R [] (y ∷ ys) = ⊥
Pairs R (x ∷ xs) [] = ⊥

pub pairs-append : {A B : Type 0} (R : A → B → Type 0) (xs ys : List A) (us vs : List B) → Pairs R xs us → Pairs R ys vs
    → Pairs R (xs ++ ys) (us ++ vs)
pairs-append R [] ys [] vs h i = i
pairs-append R [] ys (u ∷ us) vs h i = absurd h
pairs-append R (x ∷ xs) ys [] vs h i = absurd h
pairs-append R (x ∷ xs) ys (u ∷ us) vs h i = (h.0, pairs-append R xs ys us vs h.1 i)

-- alike where both are there
abbrev pub Both : {A B : Type 0} → (A → B → Type 0) → Option A → Option B → Type 0
Both R None None = ⊤
Both R (Some x) (Some y) = R x y
Both R None (Some y) = ⊥
Both R (Some x) None = ⊥

pairs-cons : {A B : Type 0} (R : A → B → Type 0) (x : Option A) (y : Option B) (xs : List A) (ys : List B) → Both R x y → Pairs R xs ys
    → Pairs R (cons_option x xs) (cons_option y ys)
pairs-cons R None None xs ys h i = i
pairs-cons R (Some x) (Some y) xs ys h i = (h, i)
pairs-cons R None (Some y) xs ys h i = absurd h
pairs-cons R (Some x) None xs ys h i = absurd h

pub pairs-filter_map : {A B C D : Type 0} (R : A → B → Type 0) (S : C → D → Type 0) (f : A → Option C) (g : B → Option D)
    → ((x : A) (y : B) → R x y → Both S (f x) (g y)) → (xs : List A) (ys : List B) → Pairs R xs ys → Pairs S (filter_map f xs) (filter_map g ys)
pairs-filter_map R S f g one [] [] h = tt
pairs-filter_map R S f g one [] (y ∷ ys) h = absurd h
pairs-filter_map R S f g one (x ∷ xs) [] h = absurd h
pairs-filter_map R S f g one (x ∷ xs) (y ∷ ys) h =
    pairs-cons S (f x) (g y) (filter_map f xs) (filter_map g ys) (one x y h.0) (pairs-filter_map R S f g one xs ys h.1)

keep_both : {A B : Type 0} (R : A → B → Type 0) (b c : Bool) → b ≡ c → (x : A) (y : B) (xs : List A) (ys : List B) → R x y → Pairs R xs ys
    → Pairs R (if b then x ∷ xs else xs) (if c then y ∷ ys else ys)
keep_both R true true e x y xs ys h i = (h, i)
keep_both R false false e x y xs ys h i = i
keep_both R true false e x y xs ys h i = absurd (cc)
keep_both R false true e x y xs ys h i = absurd (cc)

pub pairs-filter : {A B : Type 0} (R : A → B → Type 0) (f : A → Bool) (g : B → Bool) → ((x : A) (y : B) → R x y → f x ≡ g y)
    → (xs : List A) (ys : List B) → Pairs R xs ys → Pairs R (filter f xs) (filter g ys)
pairs-filter R f g same [] [] h = tt
pairs-filter R f g same [] (y ∷ ys) h = absurd h
pairs-filter R f g same (x ∷ xs) [] h = absurd h
pairs-filter R f g same (x ∷ xs) (y ∷ ys) h =
    keep_both R (f x) (g y) (same x y h.0) x y (filter f xs) (filter g ys) h.0 (pairs-filter R f g same xs ys h.1)

pub pairs-map : {A B C D : Type 0} (R : A → B → Type 0) (S : C → D → Type 0) (f : A → C) (g : B → D) → ((x : A) (y : B) → R x y → S (f x) (g y))
    → (xs : List A) (ys : List B) → Pairs R xs ys → Pairs S (map f xs) (map g ys)
pairs-map R S f g one [] [] h = tt
pairs-map R S f g one [] (y ∷ ys) h = absurd h
pairs-map R S f g one (x ∷ xs) [] h = absurd h
pairs-map R S f g one (x ∷ xs) (y ∷ ys) h = (one x y h.0, pairs-map R S f g one xs ys h.1)

pub pairs-same : {A B C : Type 0} (R : A → B → Type 0) (f : A → C) (g : B → C) → ((x : A) (y : B) → R x y → f x ≡ g y)
    → (xs : List A) (ys : List B) → Pairs R xs ys → map f xs ≡ map g ys
pairs-same R f g one [] [] h = refl
pairs-same R f g one [] (y ∷ ys) h = absurd h
pairs-same R f g one (x ∷ xs) [] h = absurd h
pairs-same R f g one (x ∷ xs) (y ∷ ys) h =
    ap (λ z. z ∷ map f xs) (one x y h.0) ∙ ap (λ zs. g y ∷ zs) (pairs-same R f g one xs ys h.1)

-- STEPS that are alike tell one deed at one time
module _ (R : Step → Step → Type 0) (deeds : (s t : Step) → R s t → s.deed ≡ t.deed) where
  abbrev pub AlikePlaced : Placed → Placed → Type 0
  AlikePlaced p q = (p.depth ≡ q.depth) × R p.step q.step

  pub pairs-placed : (d : ℕ) (ss ts : List Step) → Pairs R ss ts → Pairs AlikePlaced (placed d ss) (placed d ts)
  pairs-placed d [] [] h = tt
  pairs-placed d [] (t ∷ ts) h = absurd h
  pairs-placed d (s ∷ ss) [] h = absurd h
  pairs-placed d (s ∷ ss) (t ∷ ts) h =
      let e : s.deed ≡ t.deed = deeds s t h.0 in
      let P : Deed → Type 0 = λ z. Pairs AlikePlaced (placed (depth_after d s.deed) ss) (placed (depth_after d z) ts) in
      ((ap (depth_of d) e, h.0), subst P e (pairs-placed (depth_after d s.deed) ss ts h.1))

  pub pairs-outermost : (ps qs : List Placed) → Pairs AlikePlaced ps qs → Pairs R (outermost ps) (outermost qs)
  pairs-outermost ps qs h =
      pairs-map AlikePlaced R (λ p. p.step) (λ p. p.step) (λ p q i. i.1) (filter (λ p. p.depth == 0) ps) (filter (λ p. p.depth == 0) qs)
      (pairs-filter AlikePlaced (λ p. p.depth == 0) (λ p. p.depth == 0) (λ p q i. ap (λ d. d == 0) i.0) ps qs h)

  cut : (b c : Bool) → b ≡ c → (s t : Step) (ss ts : List Step) → R s t → Pairs R ss ts → Pairs R (if b then [] else s ∷ ss) (if c then [] else t ∷ ts)
  cut true true e s t ss ts h i = tt
  cut false false e s t ss ts h i = (h, i)
  cut true false e s t ss ts h i = absurd (cc)
  cut false true e s t ss ts h i = absurd (cc)

  pairs-before : (d : ℕ) (ss ts : List Step) → Pairs R ss ts → Pairs R (before_leave d ss) (before_leave d ts)
  pairs-before d [] [] h = tt
  pairs-before d [] (t ∷ ts) h = absurd h
  pairs-before d (s ∷ ss) [] h = absurd h
  pairs-before d (s ∷ ss) (t ∷ ts) h =
      let e : s.deed ≡ t.deed = deeds s t h.0 in
      let P : Deed → Type 0 = λ z. Pairs R (before_leave (depth_after d s.deed) ss) (before_leave (depth_after d z) ts) in
      cut (closes d s.deed) (closes d t.deed) (ap (closes d) e) s t _ _ h.0 (subst P e (pairs-before (depth_after d s.deed) ss ts h.1))

  pub pairs-inside : (ss ts : List Step) → Pairs R ss ts → inside ss ≡ inside ts
  pairs-inside ss ts h =
      pairs-same R (λ s. s.deed) (λ s. s.deed) deeds _ _
      (pairs-outermost _ _ (pairs-placed 0 (before_leave 0 ss) (before_leave 0 ts) (pairs-before 0 ss ts h)))

  module _ (times : (s t : Step) → R s t → s.time ≡ t.time) where
    abbrev pub AlikeActivation : Activation → Activation → Type 0
    AlikeActivation a b = (a.time ≡ b.time) × (a.value ≡ b.value) × Pairs AlikePlaced a.steps b.steps

    abbrev pub AlikeGroups : Activations → Activations → Type 0
    AlikeGroups g h = Pairs AlikePlaced g.before h.before × Pairs AlikeActivation g.activations h.activations

    behind : (p q : Placed) (g h : Activations) → AlikePlaced p q → AlikeGroups g h
        → AlikeGroups (record { before = p ∷ g.before; activations = g.activations }) (record { before = q ∷ h.before; activations = h.activations })
    behind p q g h i j = ((i, j.0), j.1)

    groups-by : (d : ℕ) (deed : Deed) (p q : Placed) (g h : Activations) → AlikePlaced p q → AlikeGroups g h
        → AlikeGroups (grouped_by d deed p g) (grouped_by d deed q h)
    groups-by zero (Release v) p q g h i j = (tt, ((times p.step q.step i.1, refl, j.0), j.1))
    groups-by zero (Arrive v) p q g h i j = behind p q g h i j
    groups-by zero (Enter name values) p q g h i j = behind p q g h i j
    groups-by zero (Leave name values) p q g h i j = behind p q g h i j
    groups-by zero (Request target v) p q g h i j = behind p q g h i j
    groups-by zero (Print v) p q g h i j = behind p q g h i j
    groups-by zero (End used) p q g h i j = behind p q g h i j
    groups-by zero (Stop object priority ceiling) p q g h i j = behind p q g h i j
    groups-by (suc d) (Release v) p q g h i j = behind p q g h i j
    groups-by (suc d) (Arrive v) p q g h i j = behind p q g h i j
    groups-by (suc d) (Enter name values) p q g h i j = behind p q g h i j
    groups-by (suc d) (Leave name values) p q g h i j = behind p q g h i j
    groups-by (suc d) (Request target v) p q g h i j = behind p q g h i j
    groups-by (suc d) (Print v) p q g h i j = behind p q g h i j
    groups-by (suc d) (End used) p q g h i j = behind p q g h i j
    groups-by (suc d) (Stop object priority ceiling) p q g h i j = behind p q g h i j

    pub pairs-grouped : (ps qs : List Placed) → Pairs AlikePlaced ps qs → AlikeGroups (grouped ps) (grouped qs)
    pairs-grouped [] [] h = (tt, tt)
    pairs-grouped [] (q ∷ qs) h = absurd h
    pairs-grouped (p ∷ ps) [] h = absurd h
    pairs-grouped (p ∷ ps) (q ∷ qs) h =
        let P : ℕ → Deed → Type 0 = λ d z. AlikeGroups (grouped_by p.depth p.step.deed p (grouped ps)) (grouped_by d z q (grouped qs)) in
        let one : P p.depth p.step.deed = groups-by p.depth p.step.deed p q (grouped ps) (grouped qs) h.0 (pairs-grouped ps qs h.1) in
        let two : P q.depth p.step.deed = subst (λ d. P d p.step.deed) h.0.0 one in
        subst (λ z. P q.depth z) (deeds p.step q.step h.0.1) two

-- the steps of a thread, from events that are the same
step-both : (R : Step → Step → Type 0) (thread : Name) (e : Event) (b c : Path)
    → ((time : ℕ) (task : Name) (deed : Deed) → e ≡ By time task deed
    → R (record { time = time; deed = deed; body = b }) (record { time = time; deed = deed; body = c }))
    → Both R (step_by thread e b) (step_by thread e c)
step-both R thread (Horizon time) b c one = tt
step-both R thread (By time task deed) b c one = by (same_name task thread && is_own deed)
  where
    by : (z : Bool) → Both R (if z then Some (record { time = time; deed = deed; body = b }) else None)
        (if z then Some (record { time = time; deed = deed; body = c }) else None)
    by true = one time task deed refl
    by false = tt

-- a pair of moments whose steps are alike
abbrev pub AlikeMoment : (Deed → Path → Path → Type 0) → Moment → Moment → Type 0
AlikeMoment F m n = (m.event ≡ n.event) × ((time : ℕ) (task : Name) (deed : Deed) → m.event ≡ By time task deed → F deed m.body n.body)

abbrev pub AlikeStep : (Deed → Path → Path → Type 0) → Step → Step → Type 0
AlikeStep F s t = (s.time ≡ t.time) × (s.deed ≡ t.deed) × F s.deed s.body t.body

pub pairs-steps : (F : Deed → Path → Path → Type 0) (thread : Name) (ms ns : List Moment) → Pairs (AlikeMoment F) ms ns
    → Pairs (AlikeStep F) (steps_of thread ms) (steps_of thread ns)
pairs-steps F thread ms ns h =
    pairs-filter_map (AlikeMoment F) (AlikeStep F) (λ m. step_by thread m.event m.body) (λ m. step_by thread m.event m.body) one ms ns h
  where
    one : (m n : Moment) → AlikeMoment F m n → Both (AlikeStep F) (step_by thread m.event m.body) (step_by thread n.event n.body)
    one m n i =
        let P : Event → Type 0 = λ z. Both (AlikeStep F) (step_by thread m.event m.body) (step_by thread z n.body) in
        subst P i.0 (step-both (AlikeStep F) thread m.event m.body n.body (λ time task deed e. (refl, refl, i.1 time task deed e)))

-- what is inside an operation doesn't depend on the ways
abbrev Whatever : Deed → Path → Path → Type 0
Whatever deed b c = ⊤

moments-alike : (told : List Event) (bs cs : List Path) → Pairs (AlikeMoment Whatever) (moments told bs) (moments told cs)
moments-alike [] bs cs = tt
moments-alike (e ∷ told) bs cs = ((refl, λ time task deed i. tt), moments-alike told (drop 1 bs) (drop 1 cs))

pub inside-same : (thread : Name) (told : List Event) (bs cs : List Path)
    → inside (steps_of thread (moments told bs)) ≡ inside (steps_of thread (moments told cs))
inside-same thread told bs cs =
    pairs-inside (AlikeStep Whatever) (λ s t i. i.1) _ _ (pairs-steps Whatever thread _ _ (moments-alike told bs cs))
