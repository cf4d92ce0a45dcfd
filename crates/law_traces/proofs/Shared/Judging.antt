-- Verdicts: what the checks say is the verdict on a list of events, and a text has one list of events.
use Rattle.std.proofs.Common.{◌≡◌, ◌⊎◌, inl, inr, ℕ, suc, Bool, true, false, not, List, [], ◌∷◌, ◌++◌, length, Option, Some, None, refl, sym, ap}
use Rattle.std.proofs.Common.{subst, ◌∙◌}
use Rattle.std.proofs.Common.{append_assoc}
use Rattle.std.specs.Prelude.{find, if◌then◌else◌}
use Rattle.std.specs.Bool.{Decides}
use Rattle.std.proofs.lemmas.List.Concat.{flat_map-cons}
use Rattle.seq_tree.specs.Lists.{Each}
use Rattle.ods_tree.specs.Flats.{Guarded}
use Rattle.ada_tree.specs.Programs.{Program}
use Rattle.trace_tree.specs.Lines.{line, lines}
use Rattle.trace_tree.specs.declared.event.Event as machine
use Rattle.guarantee.specs.Software.{Software, Task}
use Rattle.guarantee.specs.Events.{Event, named}
use Rattle.guarantee.specs.Arrivals.{Arrivals}
use Rattle.guarantee.specs.Order.{IsInOrder}
use Rattle.guarantee.specs.Requests.{AreTold}
use Rattle.guarantee.specs.Allowed.{IsPeriodic, IsRequested}
use Rattle.law_traces.specs.Told.{HasPlainNames, IsEvent}
use Rattle.law_traces.proofs.Shared.Events.{tells-event, tells-events, line-some}
use Rattle.law_traces.specs.Clear.{IsClear}
use Rattle.law_traces.specs.Parts.{Serves, Follows}
use Rattle.law_traces.specs.Checks.{in_order, is_periodic, are_told, is_requested, serves, follows}
use Rattle.law_traces.specs.Laws.{AreDecided, IsJudged}
use Rattle.law_traces.specs.Verdicts.{Verdict, Accepted, Line, Times, Cyclic, Untold, Requests, Script, Shared, IsFirstWithout, IsVerdictOn}
use Rattle.law_traces.specs.Verdicts.{BeginsNoLine}
use Rattle.law_traces.specs.Verdicts.{IsVerdict, first_or, judged}
use Rattle.law_traces.proofs.Shared.Joins.{all-decided, in-parts}

-- THE FIRST that fails a test
abbrev failing : {A : Type 0} → (A → Bool) → List A → Option A
failing test xs = find (λ x. not (test x)) xs

-- what is found, or that all pass
abbrev Found : {A : Type 0} → (A → Type 0) → List A → Option A → Type 0
Found P xs None = Each P xs
Found P xs (Some x) = IsFirstWithout P xs x

found-next : {A : Type 0} (P : A → Type 0) (x : A) (xs : List A) (o : Option A) → P x → Found P xs o → Found P (x ∷ xs) o
found-next P x xs None h f = (h, f)
found-next P x xs (Some y) h f =
    record { front = x ∷ f.front; back = f.back; split = ap (λ zs. x ∷ zs) f.split; before = (h, f.before); broken = f.broken }

find-by : {A : Type 0} (x : A) (o : Option A) → Bool → Option A
find-by x o b = if not b then Some x else o

found-by : {A : Type 0} (P : A → Type 0) (b : Bool) (x : A) (xs : List A) (o : Option A) → Decides b (P x) → Found P xs o
    → Found P (x ∷ xs) (find-by x o b)
unfolding find-by
found-by P true x xs o d f = found-next P x xs o (d.0 refl) f
found-by P false x xs o d f =
    record { front = []; back = xs; split = refl; before = tt; broken = λ h. let e = d.1 h in cc }

found-first : {A : Type 0} (test : A → Bool) (P : A → Type 0) (xs : List A) → Each (λ x. Decides (test x) (P x)) xs → Found P xs (failing test xs)
unfolding find-by
found-first test P [] d = tt
found-first test P (x ∷ xs) d = found-by P (test x) x xs (failing test xs) d.0 (found-first test P xs d.1)

-- the first item is it, or passes
abbrev Split : {A : Type 0} → (A → Type 0) → A → List A → A → Type 0
Split P x xs y = ((x ≡ y) × (P x → ⊥)) ⊎ (P x × IsFirstWithout P xs y)

cons_parts : {A : Type 0} {x y : A} {xs ys : List A} → x ∷ xs ≡ y ∷ ys → (x ≡ y) × (xs ≡ ys)
cons_parts e = (cc, cc)

split-by : {A : Type 0} (P : A → Type 0) (x : A) (xs : List A) (y : A) (front back : List A) → x ∷ xs ≡ front ++ y ∷ back → Each P front
    → (P y → ⊥) → Split P x xs y
split-by P x xs y [] back e before broken = let p = cons_parts e in inl (p.0, λ h. broken (subst P p.0 h))
split-by P x xs y (z ∷ zs) back e before broken =
    let p = cons_parts e in
    inr (subst P (sym p.0) before.0, record { front = zs; back = back; split = p.1; before = before.1; broken = broken })

split-first : {A : Type 0} (P : A → Type 0) (x : A) (xs : List A) (y : A) → IsFirstWithout P (x ∷ xs) y → Split P x xs y
split-first P x xs y f = split-by P x xs y f.front f.back f.split f.before f.broken

none-first : {A : Type 0} (P : A → Type 0) (y : A) → IsFirstWithout P [] y → ⊥
none-first P y f = nowhere f.front f.split
  where
    nowhere : (front : List _) → [] ≡ front ++ y ∷ f.back → ⊥
    nowhere [] e = cc
    nowhere (z ∷ zs) e = cc

-- and it is the only one
only-step : {A : Type 0} (P : A → Type 0) (b : Bool) (x : A) (xs : List A) (o p : Option A) → Decides b (P x) → ((q : Option A) → Found P xs q → q ≡ o)
    → Found P (x ∷ xs) p → p ≡ find-by x o b
unfolding find-by
only-step P true x xs o None d one f = one None f.1
only-step P true x xs o (Some y) d one f =
    elim (split-first P x xs y f) [
      | inl h ↦ absurd (h.1 (d.0 refl))
      | inr h ↦ one (Some y) h.1
    ]
only-step P false x xs o None d one f = let e = d.1 f.0 in cc
only-step P false x xs o (Some y) d one f =
    elim (split-first P x xs y f) [
      | inl h ↦ ap Some (sym h.0)
      | inr h ↦ (let e = d.1 h.0 in cc)
    ]

only-first : {A : Type 0} (test : A → Bool) (P : A → Type 0) (xs : List A) → Each (λ x. Decides (test x) (P x)) xs → (p : Option A) → Found P xs p
    → p ≡ failing test xs
unfolding find-by
only-first test P [] d None f = refl
only-first test P [] d (Some y) f = absurd (none-first P y f)
only-first test P (x ∷ xs) d p f =
    only-step P (test x) x xs (failing test xs) p d.0 (λ q g. only-first test P xs d.1 q g) f

-- THE VERDICT by the answers of the checks
composed : Bool → Option Task → Bool → Option Task → Option Task → Option Guarded → ℕ → Verdict
composed a cyclic b requested followed served n =
    if a
    then first_or (λ t. Cyclic t.name) cyclic
    (if b
    then first_or (λ t. Requests t.name) requested
    (first_or (λ t. Script t.name) followed (first_or (λ g. Shared g.name) served (Accepted n)))
    else Untold)
    else Times

module _ (w : Software) (clear : IsClear w) (r : Arrivals) (told : List Event) where
  abbrev InOrder : Type 0
  InOrder = IsInOrder w.tasks r.until 0 told

  abbrev Periodic : Task → Type 0
  Periodic t = IsPeriodic r.until told t.name t.timing

  abbrev Told : Type 0
  Told = AreTold r.until r.items told

  abbrev Requested : Task → Type 0
  Requested t = IsRequested told t.name t.timing

  decided : AreDecided w clear.depth r told
  decided = all-decided w clear r told

  abbrev cyclic-fails : Option Task
  cyclic-fails = failing (λ t. is_periodic r.until told t.name t.timing) w.tasks

  abbrev request-fails : Option Task
  request-fails = failing (λ t. is_requested told t.name t.timing) w.tasks

  abbrev script-fails : Option Task
  script-fails = failing (λ t. follows w clear.depth told t) w.tasks

  abbrev object-fails : Option Guarded
  object-fails = failing (λ g. serves w clear.depth told g) w.shared

  judged-composed : judged w clear.depth r told ≡ composed (in_order w.tasks r.until 0 told) cyclic-fails (are_told r.until r.items told) request-fails
      script-fails object-fails (length told)
  unfolding judged composed
  judged-composed = refl

  -- RIGHT
  right-shared : (o : Option Guarded) → Found (Serves w told) w.shared o → InOrder → Each Periodic w.tasks → Told → Each Requested w.tasks
      → Each (Follows w told) w.tasks → IsVerdictOn w r told (first_or (λ g. Shared g.name) o (Accepted (length told)))
  right-shared None f a c t q s = (
    (in-parts w clear r told).together
        (record { times = a; cyclic = c; arrivals = t; requests = q; scripts = s; objects = f }),
    refl,
  )
  right-shared (Some g) f a c t q s = (a, c, t, q, s, g, f, refl)

  right-script : (o : Option Task) → Found (Follows w told) w.tasks o → (p : Option Guarded) → Found (Serves w told) w.shared p → InOrder
      → Each Periodic w.tasks → Told → Each Requested w.tasks
      → IsVerdictOn w r told (first_or (λ t. Script t.name) o (first_or (λ g. Shared g.name) p (Accepted (length told))))
  right-script None f p i a c t q = right-shared p i a c t q f
  right-script (Some x) f p i a c t q = (a, c, t, q, x, f, refl)

  right-composed : (a : Bool) → Decides a InOrder → (c : Option Task) → Found Periodic w.tasks c → (b : Bool) → Decides b Told
      → (q : Option Task) → Found Requested w.tasks q → (s : Option Task) → Found (Follows w told) w.tasks s → (o : Option Guarded)
      → Found (Serves w told) w.shared o → IsVerdictOn w r told (composed a c b q s o (length told))
  unfolding composed
  right-composed false d c f b e q g s h o i = λ x. let y = d.1 x in cc
  right-composed true d (Some t) f b e q g s h o i = (d.0 refl, t, f, refl)
  right-composed true d None f false e q g s h o i = (d.0 refl, f, λ x. let y = e.1 x in cc)
  right-composed true d None f true e (Some t) g s h o i = (d.0 refl, f, e.0 refl, t, g, refl)
  right-composed true d None f true e None g s h o i = right-script s h o i (d.0 refl) f (e.0 refl) g

  right : IsVerdictOn w r told (judged w clear.depth r told)
  right =
      subst (IsVerdictOn w r told) (sym judged-composed)
      (right-composed (in_order w.tasks r.until 0 told) decided.times cyclic-fails (found-first _ Periodic w.tasks decided.cyclic)
      (are_told r.until r.items told) decided.arrivals request-fails (found-first _ Requested w.tasks decided.requests) script-fails
      (found-first _ (Follows w told) w.tasks decided.scripts) object-fails (found-first _ (Serves w told) w.shared decided.objects))

  -- ONLY
  composed-same : (a a' : Bool) (c c' : Option Task) (b b' : Bool) (q q' s s' : Option Task) (o o' : Option Guarded) (n : ℕ) → a ≡ a' → c ≡ c' → b ≡ b'
      → q ≡ q' → s ≡ s' → o ≡ o' → composed a c b q s o n ≡ composed a' c' b' q' s' o' n
  composed-same a a' c c' b b' q q' s s' o o' n e f g h i j = cc

  abbrev order : Bool
  order = in_order w.tasks r.until 0 told

  abbrev arrived : Bool
  arrived = are_told r.until r.items told

  fails : (b : Bool) (P : Type 0) → Decides b P → (P → ⊥) → b ≡ false
  fails true P d h = absurd (h (d.0 refl))
  fails false P d h = refl

  cyclic-one : (p : Option Task) → Found Periodic w.tasks p → cyclic-fails ≡ p
  cyclic-one p f = sym (only-first _ Periodic w.tasks decided.cyclic p f)

  request-one : (p : Option Task) → Found Requested w.tasks p → request-fails ≡ p
  request-one p f = sym (only-first _ Requested w.tasks decided.requests p f)

  script-one : (p : Option Task) → Found (Follows w told) w.tasks p → script-fails ≡ p
  script-one p f = sym (only-first _ (Follows w told) w.tasks decided.scripts p f)

  object-one : (p : Option Guarded) → Found (Serves w told) w.shared p → object-fails ≡ p
  object-one p f = sym (only-first _ (Serves w told) w.shared decided.objects p f)

  only-composed : (v : Verdict) → IsVerdictOn w r told v → composed order cyclic-fails arrived request-fails script-fails object-fails (length told) ≡ v
  unfolding composed
  only-composed (Accepted n) h =
      let p = (in-parts w clear r told).apart h.0 in
      composed-same _ true _ None _ true _ None _ None _ None (length told) (decided.times.1 p.times) (cyclic-one None p.cyclic)
      (decided.arrivals.1 p.arrivals) (request-one None p.requests) (script-one None p.scripts) (object-one None p.objects)
      ∙ ap Accepted (sym h.1)
  only-composed (Line k) h = absurd h
  only-composed Times h =
      composed-same _ false _ _ _ _ _ _ _ _ _ _ (length told) (fails order InOrder decided.times h) refl refl refl refl refl
  only-composed (Cyclic thread) h =
      composed-same _ true _ (Some h.1) _ _ _ _ _ _ _ _ (length told) (decided.times.1 h.0) (cyclic-one (Some h.1) h.2) refl refl refl refl
      ∙ ap Cyclic (sym h.3)
  only-composed Untold h =
      composed-same _ true _ None _ false _ _ _ _ _ _ (length told) (decided.times.1 h.0) (cyclic-one None h.1)
      (fails arrived Told decided.arrivals h.2) refl refl refl
  only-composed (Requests thread) h =
      composed-same _ true _ None _ true _ (Some h.3) _ _ _ _ (length told) (decided.times.1 h.0) (cyclic-one None h.1) (decided.arrivals.1 h.2)
      (request-one (Some h.3) h.4) refl refl
      ∙ ap Requests (sym h.5)
  only-composed (Script thread) h =
      composed-same _ true _ None _ true _ None _ (Some h.4) _ _ (length told) (decided.times.1 h.0) (cyclic-one None h.1) (decided.arrivals.1 h.2)
      (request-one None h.3) (script-one (Some h.4) h.5) refl
      ∙ ap Script (sym h.6)
  only-composed (Shared object) h =
      composed-same _ true _ None _ true _ None _ None _ (Some h.5) (length told) (decided.times.1 h.0) (cyclic-one None h.1)
      (decided.arrivals.1 h.2) (request-one None h.3) (script-one None h.4) (object-one (Some h.5) h.6)
      ∙ ap Shared (sym h.7)

  pub judges : IsJudged w clear.depth r told
  judges = record { right = right; only = λ v h. sym (only-composed v h) ∙ sym judged-composed }

-- A TEXT has one list of events, or one first line that is none
module _ (w : Software) (clear : IsClear w) (p : Program) (plain : HasPlainNames p) (r : Arrivals) where
  -- a whole text has no line that is none
  no-line : (es fs : List machine.Event) (rest : List ℕ) → Each (IsEvent p) es → Each (IsEvent p) fs → lines p es ≡ lines p fs ++ rest
      → BeginsNoLine p rest → ⊥
  no-line [] [] rest h i same none = none.0 (sym same)
  no-line (e ∷ es) [] rest h i same none = none.1 e (lines p es) h.0 (sym same ∙ flat_map-cons (line p) e es)
  no-line [] (f ∷ fs) rest h i same none =
      line-some p plain f (lines p fs ++ rest) (same ∙ ap (λ t. t ++ rest) (flat_map-cons (line p) f fs)
      ∙ append_assoc (line p f) (lines p fs) rest)
  no-line (e ∷ es) (f ∷ fs) rest h i same none =
      let one = tells-event p plain e f (lines p es) (lines p fs ++ rest) h.0 i.0
      (sym (flat_map-cons (line p) e es) ∙ same ∙ ap (λ t. t ++ rest) (flat_map-cons (line p) f fs)
      ∙ append_assoc (line p f) (lines p fs) rest) in
      no-line es fs rest h.1 i.1 one.1 none

  -- two first lines that are none have one number
  one-line : (es fs : List machine.Event) (rest others : List ℕ) → Each (IsEvent p) es → Each (IsEvent p) fs → lines p es ++ rest ≡ lines p fs ++ others
      → BeginsNoLine p rest → BeginsNoLine p others → length es ≡ length fs
  one-line [] [] rest others h i same none none' = refl
  one-line (e ∷ es) [] rest others h i same none none' =
      absurd (none'.1 e (lines p es ++ rest) h.0 (sym same ∙ ap (λ t. t ++ rest) (flat_map-cons (line p) e es)
      ∙ append_assoc (line p e) (lines p es) rest))
  one-line [] (f ∷ fs) rest others h i same none none' =
      absurd (none.1 f (lines p fs ++ others) i.0 (same ∙ ap (λ t. t ++ others) (flat_map-cons (line p) f fs)
      ∙ append_assoc (line p f) (lines p fs) others))
  one-line (e ∷ es) (f ∷ fs) rest others h i same none none' =
      let one = tells-event p plain e f (lines p es ++ rest) (lines p fs ++ others) h.0 i.0
      (sym (append_assoc (line p e) (lines p es) rest) ∙ sym (ap (λ t. t ++ rest) (flat_map-cons (line p) e es)) ∙ same
      ∙ ap (λ t. t ++ others) (flat_map-cons (line p) f fs) ∙ append_assoc (line p f) (lines p fs) others) in
      ap suc (one-line es fs rest others h.1 i.1 one.1 none none')

  -- a verdict on events
  abbrev OnEvents : List ℕ → Verdict → Type 0
  OnEvents text v = (es : List machine.Event) × Each (IsEvent p) es × (text ≡ lines p es) × IsVerdictOn w r (named p es) v

  -- a verdict is one on events, or tells a line
  abbrev OnLine : List ℕ → Verdict → Type 0
  OnLine text v = (k : ℕ) × (v ≡ Line k) × IsVerdict w p r text (Line k)

  kinds : (text : List ℕ) (v : Verdict) → IsVerdict w p r text v → OnEvents text v ⊎ OnLine text v
  kinds text (Accepted n) h = inl h
  kinds text (Line k) h = inr (k, refl, h)
  kinds text Times h = inl h
  kinds text (Cyclic thread) h = inl h
  kinds text Untold h = inl h
  kinds text (Requests thread) h = inl h
  kinds text (Script thread) h = inl h
  kinds text (Shared object) h = inl h

  events-one : (text : List ℕ) (u v : Verdict) → OnEvents text u → OnEvents text v → u ≡ v
  events-one text u v h i =
      let same = tells-events p plain h.0 i.0 h.1 i.1 (sym h.2 ∙ i.2) in
      (judges w clear r (named p h.0)).only u h.3
      ∙ ap (judged w clear.depth r) same.0 ∙ sym ((judges w clear r (named p i.0)).only v i.3)

  mixed : (text : List ℕ) (u v : Verdict) → OnEvents text u → OnLine text v → ⊥
  mixed text u v h i =
      no-line h.0 i.2.0 i.2.1 h.1 i.2.2 (sym h.2 ∙ i.2.3) i.2.4

  lines-one : (text : List ℕ) (u v : Verdict) → OnLine text u → OnLine text v → u ≡ v
  lines-one text u v h i =
      let same = one-line h.2.0 i.2.0 h.2.1 i.2.1 h.2.2 i.2.2 (sym h.2.3 ∙ i.2.3) h.2.4 i.2.4 in
      h.1 ∙ ap Line (h.2.5 ∙ ap suc same ∙ sym i.2.5) ∙ sym i.1

  pub one-verdict : (text : List ℕ) (u v : Verdict) → IsVerdict w p r text u → IsVerdict w p r text v → u ≡ v
  one-verdict text u v h i =
      elim (kinds text u h) [
        | inl a ↦ elim (kinds text v i) [
          | inl b ↦ events-one text u v a b
          | inr b ↦ absurd (mixed text u v a b)
        ]
        | inr a ↦ elim (kinds text v i) [
          | inl b ↦ absurd (mixed text v u b a)
          | inr b ↦ lines-one text u v a b
        ]
      ]
