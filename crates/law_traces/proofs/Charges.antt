-- Ways of any kind against those that are computed, over a whole trace: alike where an object that is served is entered.
-- So an activation that is charged rightly with the one is so with the other.
use Rattle.std.proofs.Common.{◌≡◌, ◌⊎◌, inl, inr, ℕ, ◌+◌, ◌≤◌, Bool, true, false, not, ◌||◌, List, [], ◌∷◌, map, drop, Option, Some, None, refl}
use Rattle.std.proofs.Common.{sym, ap, subst, ◌∙◌, arith}
use Rattle.std.specs.Prelude.{find, unwrap_or, option_map, ⊤, if◌then◌else◌}
use Rattle.std.specs.Bool.{Decides}
use Rattle.std.specs.List.{list_any, list_all}
use Rattle.std.proofs.lemmas.Bool.{and_parts, or_parts, not-true}
use Rattle.std.proofs.lemmas.Option.{same_Some, none-some}
use Rattle.std.proofs.lemmas.Slice.Eq.{bytes_eq-Decides}
use Rattle.std.proofs.lemmas.List.Sums.{sum_by-cons}
use Rattle.seq_tree.specs.Lists.{Each}
use Rattle.seq_tree.specs.Names.{Name, same_name, is_named, are_distinct}
use Rattle.seq_tree.specs.Variables.{Variables, written}
use Rattle.seq_tree.specs.Runs.{Path}
use Rattle.seq_tree.specs.declared.tree.OpName.{OpName}
use Rattle.ods_tree.specs.Flats.{Guarded}
use Rattle.law_walks.specs.Fit.{MayRun}
use Rattle.guarantee.specs.Software.{Software, leads_to}
use Rattle.guarantee.specs.Events.{Deed, Release, Arrive, Enter, Leave, Request, Print, End, Stop, Event, By}
use Rattle.guarantee.specs.Steps.{Moment, Step, Placed, moments, first_way}
use Rattle.guarantee.specs.Scripts.{Activation, least_by, most_by, least_inside, most_inside, IsCharged}
use Rattle.guarantee.specs.Passages.{passages, AreOneByOne, ServesOneByOne}
use Rattle.law_traces.specs.Clear.{IsClear}
use Rattle.law_traces.specs.Parts.{Serves, AreRight, enters, enters_in, IsAmongServed}
use Rattle.law_traces.specs.Checks.{endless, object_named, body_in, does_in, is_passed, way_of, way_in, ways_from, data_after, written_in, used_by}
use Rattle.law_traces.specs.Checks.{used_in}
use Rattle.law_traces.specs.Checks.{most_used, ways, serves, one_by_one, is_among_served}
use Rattle.law_traces.proofs.Deciding.{decides-each, decides-where, each-map, each-both}
use Rattle.law_traces.proofs.Shared.Pairs.{Pairs, AlikeMoment, AlikeStep, AlikePlaced}
use Rattle.law_traces.proofs.Objects.{AlikeAt, found-each, wrong, ways-serve, check-serves, one-only}
use Rattle.law_traces.proofs.Shared.Finding.{same-turned, found-passes}

-- OBJECTS have names of their own
none-named : (name : Name) (gs : List Guarded) → is_named (map (λ g. g.name) gs) name ≡ false → Each (λ g. same_name g.name name ≡ false) gs
none-named name [] e = tt
none-named name (g ∷ gs) e = let p = or_parts (same_name g.name name) _ e in (p.0, none-named name gs p.1)

pub own-names : (gs : List Guarded) → are_distinct (map (λ g. g.name) gs) ≡ true
    → Each (λ g. find (λ h. same_name h.name g.name) gs ≡ Some g) gs
own-names [] e = tt
own-names (g ∷ gs) e =
    let p = and_parts (not (is_named (map (λ h. h.name) gs) g.name)) (are_distinct (map (λ h. h.name) gs)) e in
    let First : Guarded → Bool → Option Guarded = λ x z. if z then Some g else find (λ h. same_name h.name x.name) gs in (
      ap (First g) ((bytes_eq-Decides g.name g.name).1 refl),
      each-both (λ x. same_name x.name g.name ≡ false) (λ x. find (λ h. same_name h.name x.name) gs ≡ Some x)
          (λ x. find (λ h. same_name h.name x.name) (g ∷ gs) ≡ Some x)
          (λ x other found. ap (First x) (same-turned x.name g.name other) ∙ found) gs
          (none-named g.name gs (not-true _ p.0)) (own-names gs p.1),
    )

module _ (w : Software) (clear : IsClear w) (trace : List Event) where
  abbrev pub most : ℕ
  most = most_used trace

  abbrev pub computed : List Path
  computed = ways w clear.depth trace

  abbrev Owns : Guarded → Type 0
  Owns g = object_named w g.name ≡ Some g

  all-own : Each Owns w.shared
  all-own = own-names w.shared clear.objects

  written-own : (g : Guarded) → Owns g → written_in w g.name ≡ written g.vars
  written-own g own =
      ap (λ o. unwrap_or (option_map (λ h. written h.vars) o) []) own

  -- any ways that serve an object, and those that are computed
  one-served : (g : Guarded) → Each (λ o. MayRun (leads_to w) clear.depth o.block) g.ops → Owns g → (bs : List Path)
      → ServesOneByOne w (moments trace bs) g
      → ServesOneByOne w (moments trace computed) g × Pairs (AlikeAt most g) (moments trace bs) (moments trace computed)
  one-served g may own bs h =
      let vars = written-own g own in
      let r = ways-serve w clear most g may own (written_in w) trace bs
      (subst (λ z. AreOneByOne w g z (passages g.name (moments trace bs))) (sym vars) h) in
      (subst (λ z. AreOneByOne w g z (passages g.name (moments trace computed))) vars r.0, r.1)

  -- the check of an object is right
  pub one-decided : (g : Guarded) → Each (λ o. MayRun (leads_to w) clear.depth o.block) g.ops → Owns g
      → Decides (serves w clear.depth trace g) (Serves w trace g)
  unfolding serves
  one-decided g may own =
      let vars = written-own g own in (
        λ e. (
          computed,
          subst (λ z. AreOneByOne w g z (passages g.name (moments trace computed))) vars
              (check-serves w clear most g may own (written_in w) trace
              (ap (λ z. one_by_one w clear.depth g z (passages g.name (moments trace computed))) vars ∙ e)),
        ),
        λ h. one-only w clear most g may own (written g.vars) (passages g.name (moments trace computed)) (one-served g may own h.0 h.1).0,
      )

  abbrev Decided : Guarded → Type 0
  Decided g = Decides (serves w clear.depth trace g) (Serves w trace g)

  pub objects-decided : Each Decided w.shared
  objects-decided =
      each-both (λ g. Each (λ o. MayRun (leads_to w) clear.depth o.block) g.ops) Owns Decided one-decided w.shared clear.bodies all-own

  -- the ways that are computed are right
  pub computed-right : AreRight w trace computed
  computed-right =
      each-both (λ g. Each (λ o. MayRun (leads_to w) clear.depth o.block) g.ops) Owns
      (λ g. Serves w trace g → ServesOneByOne w (moments trace computed) g)
      (λ g may own h. (one-served g may own h.0 h.1).0) w.shared clear.bodies all-own

  -- an object that is not served
  abbrev IsBad : Name → Type 0
  IsBad object = (g : Guarded) × (object_named w object ≡ Some g) × (serves w clear.depth trace g ≡ false)

  -- the ways of a deed: alike where it enters an object that is served
  abbrev Entered : Deed → Path → Path → Type 0
  Entered (Enter name values) b c = (b ≡ c) ⊎ ((c ≡ endless most) ⊎ IsBad name.object)
  Entered _ b c = ⊤

  abbrev pub Fair : Deed → Path → Path → Type 0
  Fair deed b c = (used_by deed ≤ most) × Entered deed b c

  abbrev waysof : (Name → Variables) → List Event → List Path
  waysof data' told = ways_from w clear.depth most data' told

  -- all objects that are served
  abbrev AllAlike : List Moment → List Moment → Type 0
  AllAlike ms ns = Each (λ g. serves w clear.depth trace g ≡ true → Pairs (AlikeAt most g) ms ns) w.shared

  endless-way : (b : Bool) → way_of most b None ≡ endless most
  endless-way true = refl
  endless-way false = refl

  -- the way through an operation that an event enters
  entered-way : (data' : Name → Variables) (time : ℕ) (task : Name) (name : OpName) (values : List ℕ) (told : List Event) (bs : List Path)
      → AllAlike (moments (By time task (Enter name values) ∷ told) bs)
      (moments (By time task (Enter name values) ∷ told) (waysof data' (By time task (Enter name values) ∷ told)))
      → Entered (Enter name values) (first_way bs) (way_in w clear.depth most data' (By time task (Enter name values)) told)
  entered-way data' time task name values told bs all = by (object_named w name.object) refl
    where
      c : Path
      c = way_in w clear.depth most data' (By time task (Enter name values)) told

      served : (g : Guarded) (b : Bool) → serves w clear.depth trace g ≡ b → object_named w name.object ≡ Some g
          → Entered (Enter name values) (first_way bs) c
      served g false s e = inr (inr (g, e, s))
      served g true s e =
          let pairs = found-each (λ h. same_name h.name name.object) (λ h. serves w clear.depth trace h ≡ true
          → Pairs (AlikeAt most h) (moments (By time task (Enter name values) ∷ told) bs)
          (moments (By time task (Enter name values) ∷ told) (waysof data' (By time task (Enter name values) ∷ told)))) w.shared g all e s in
          let named : same_name g.name name.object ≡ true = found-passes (λ h. same_name h.name name.object) w.shared g e in
          let turned : same_name name.object g.name ≡ true =
          (bytes_eq-Decides name.object g.name).1 (sym ((bytes_eq-Decides g.name name.object).0 named)) in
          elim (pairs.0 time task name values refl turned) [
            | inl h ↦ inl h
            | inr h ↦ inr (inl h)
          ]

      by : (o : Option Guarded) → object_named w name.object ≡ o → Entered (Enter name values) (first_way bs) c
      by None e =
          inr (inl (ap (λ o. way_of most (is_passed name.object told) (body_in w clear.depth data' name.op values (does_in task told) o)) e
          ∙ endless-way (is_passed name.object told)))
      by (Some g) e = served g (serves w clear.depth trace g) refl e

  -- the ways of one event
  event-fair : (data' : Name → Variables) (e : Event) (told : List Event) (bs : List Path) → used_in e ≤ most
      → AllAlike (moments (e ∷ told) bs) (moments (e ∷ told) (waysof data' (e ∷ told)))
      → (time : ℕ) (task : Name) (deed : Deed) → e ≡ By time task deed → Fair deed (first_way bs) (way_in w clear.depth most data' e told)
  event-fair data' e told bs few all time task deed at = by deed at
    where
      by : (d : Deed) → e ≡ By time task d → Fair d (first_way bs) (way_in w clear.depth most data' e told)
      by (Enter name values) at =
          let P : Event → Type 0 = λ z. AllAlike (moments (z ∷ told) bs) (moments (z ∷ told) (waysof data' (z ∷ told))) in
          let Q : Event → Type 0 = λ z. Entered (Enter name values) (first_way bs) (way_in w clear.depth most data' z told) in
          (omega arith, subst Q (sym at) (entered-way data' time task name values told bs (subst P at all)))
      by (Release v) at = (omega arith, tt)
      by (Arrive v) at = (omega arith, tt)
      by (Leave name values) at = (omega arith, tt)
      by (Request target v) at = (omega arith, tt)
      by (Print v) at = (omega arith, tt)
      by (End used) at = (subst (λ z. used_in z ≤ most) at few, tt)
      by (Stop object priority ceiling) at = (omega arith, tt)

  -- the ways of a whole trace
  trace-fair : (data' : Name → Variables) (told : List Event) (bs : List Path) → most_used told ≤ most
      → AllAlike (moments told bs) (moments told (waysof data' told)) → Pairs (AlikeMoment Fair) (moments told bs) (moments told (waysof data' told))
  trace-fair data' [] bs few all = tt
  trace-fair data' (e ∷ told) bs few all = (
    (refl, event-fair data' e told bs (omega (arith, few)) all),
    trace-fair (data_after w data' e (way_in w clear.depth most data' e told)) told (drop 1 bs) (omega (arith, few))
        (each-map (λ g. serves w clear.depth trace g ≡ true → Pairs (AlikeAt most g) (moments (e ∷ told) bs) (moments (e ∷ told)
        (waysof data' (e ∷ told))))
        (λ g. serves w clear.depth trace g ≡ true → Pairs (AlikeAt most g) (moments told (drop 1 bs))
        (moments told (waysof (data_after w data' e (way_in w clear.depth most data' e told)) told)))
        (λ g h s. (h s).1) w.shared all),
  )

  pub right-fair : (bs : List Path) → AreRight w trace bs → Pairs (AlikeMoment Fair) (moments trace bs) (moments trace computed)
  right-fair bs right = trace-fair (written_in w) trace bs (omega arith) all
    where
      Serving : Guarded → Type 0
      Serving g = Serves w trace g → ServesOneByOne w (moments trace bs) g

      Known : Guarded → Type 0
      Known g = Each (λ o. MayRun (leads_to w) clear.depth o.block) g.ops × Owns g

      known : Each Known w.shared
      known = each-both (λ g. Each (λ o. MayRun (leads_to w) clear.depth o.block) g.ops) Owns Known (λ g may own. (may, own)) w.shared clear.bodies
          all-own

      all : AllAlike (moments trace bs) (moments trace computed)
      all = each-both Known Serving (λ g. serves w clear.depth trace g ≡ true → Pairs (AlikeAt most g) (moments trace bs) (moments trace computed))
          (λ g k h s. (one-served g k.0 k.1 bs (h ((one-decided g k.0 k.1).0 s))).1) w.shared known right

  -- AN ACTIVATION that enters only objects that are served
  pub among-decided : (a : Activation) → Decides (is_among_served w clear.depth trace a) (IsAmongServed w trace a)
  unfolding is_among_served
  among-decided a =
      decides-each (λ g. not (enters_in g.name a) || serves w clear.depth trace g) (λ g. enters_in g.name a ≡ true → Serves w trace g) w.shared
      (each-map Decided (λ g. Decides (not (enters_in g.name a) || serves w clear.depth trace g) (enters_in g.name a ≡ true → Serves w trace g))
      (λ g h. decides-where (enters_in g.name a) (serves w clear.depth trace g) (Serves w trace g) h) w.shared objects-decided)

  abbrev enters_any : Name → List Placed → Bool
  enters_any object ps = list_any (λ p. enters object p.step.deed) ps

  -- steps that enter no object that is not served
  abbrev IsGood : List Placed → Type 0
  IsGood ps = (object : Name) (g : Guarded) → object_named w object ≡ Some g → serves w clear.depth trace g ≡ false → enters_any object ps ≡ false

  abbrev Alike : Step → Step → Type 0
  Alike = AlikeStep Fair

  abbrev Pair : Placed → Placed → Type 0
  Pair = AlikePlaced Alike (λ s t h. h.1)

  -- the ticks of one step
  step-least : (deed : Deed) (b c : Path) → Entered deed b c
      → ((name : OpName) (values : List ℕ) → deed ≡ Enter name values → IsBad name.object → ⊥) → least_by deed c ≤ least_by deed b
  step-least (Enter name values) b c h good =
      elim h [
        | inl e ↦ subst (λ z. z.low ≤ b.low) e (omega arith)
        | inr k ↦ elim k [
          | inl e ↦ subst (λ z. z.low ≤ b.low) (sym e) (omega arith)
          | inr bad ↦ absurd (good name values refl bad)
        ]
      ]
  step-least (Release v) b c h good = omega arith
  step-least (Arrive v) b c h good = omega arith
  step-least (Leave name values) b c h good = omega arith
  step-least (Request target v) b c h good = omega arith
  step-least (Print v) b c h good = omega arith
  step-least (End used) b c h good = omega arith
  step-least (Stop object priority ceiling) b c h good = omega arith

  step-most : (deed : Deed) (b c : Path) → Entered deed b c
      → ((name : OpName) (values : List ℕ) → deed ≡ Enter name values → IsBad name.object → ⊥)
      → (most_by deed b ≤ most_by deed c) ⊎ (most ≤ most_by deed c)
  step-most (Enter name values) b c h good =
      elim h [
        | inl e ↦ inl (subst (λ z. b.high ≤ z.high) e (omega arith))
        | inr k ↦ elim k [
          | inl e ↦ inr (subst (λ z. most ≤ z.high) (sym e) (omega arith))
          | inr bad ↦ absurd (good name values refl bad)
        ]
      ]
  step-most (Release v) b c h good = inl (omega arith)
  step-most (Arrive v) b c h good = inl (omega arith)
  step-most (Leave name values) b c h good = inl (omega arith)
  step-most (Request target v) b c h good = inl (omega arith)
  step-most (Print v) b c h good = inl (omega arith)
  step-most (End used) b c h good = inl (omega arith)
  step-most (Stop object priority ceiling) b c h good = inl (omega arith)

  good-step : (p : Placed) (ps : List Placed) → IsGood (p ∷ ps) → (name : OpName) (values : List ℕ) → p.step.deed ≡ Enter name values
      → IsBad name.object → ⊥
  good-step p ps good name values e bad =
      let here = (or_parts (enters name.object p.step.deed) (enters_any name.object ps) (good name.object bad.0 bad.1 bad.2)).0 in
      wrong (sym (ap (enters name.object) e ∙ (bytes_eq-Decides name.object name.object).1 refl) ∙ here)

  good-rest : (p : Placed) (ps : List Placed) → IsGood (p ∷ ps) → IsGood ps
  good-rest p ps good object g found bad = (or_parts (enters object p.step.deed) (enters_any object ps) (good object g found bad)).1

  sums-least : (ps qs : List Placed) → Pairs Pair ps qs → IsGood ps → least_inside qs ≤ least_inside ps
  sums-least [] [] h good = omega arith
  sums-least [] (q ∷ qs) h good = absurd h
  sums-least (p ∷ ps) [] h good = absurd h
  sums-least (p ∷ ps) (q ∷ qs) h good =
      let one : least_by p.step.deed q.step.body ≤ least_by p.step.deed p.step.body =
      step-least p.step.deed p.step.body q.step.body h.0.1.2.1 (good-step p ps good) in
      let same : least_by q.step.deed q.step.body ≡ least_by p.step.deed q.step.body = ap (λ d. least_by d q.step.body) (sym h.0.1.1) in
      let more : least_inside qs ≤ least_inside ps = sums-least ps qs h.1 (good-rest p ps good) in
      add_le _ _ _ _ _ _ _ (sum_by-cons (λ x. least_by x.step.deed x.step.body) q qs) (sum_by-cons (λ x. least_by x.step.deed x.step.body) p ps) same
      one more
    where
      add_le : (m n a a' b c d : ℕ) → m ≡ a + c → n ≡ b + d → a ≡ a' → a' ≤ b → c ≤ d → m ≤ n
      add_le m n a a' b c d i j e f g = omega (arith, i, j, e, f, g)

  sums-most : (ps qs : List Placed) → Pairs Pair ps qs → IsGood ps → (most_inside ps ≤ most_inside qs) ⊎ (most ≤ most_inside qs)
  sums-most [] [] h good = inl (omega arith)
  sums-most [] (q ∷ qs) h good = absurd h
  sums-most (p ∷ ps) [] h good = absurd h
  sums-most (p ∷ ps) (q ∷ qs) h good =
      let same : most_by q.step.deed q.step.body ≡ most_by p.step.deed q.step.body = ap (λ d. most_by d q.step.body) (sym h.0.1.1) in
      both _ _ _ _ _ _ _ (sum_by-cons (λ x. most_by x.step.deed x.step.body) q qs) (sum_by-cons (λ x. most_by x.step.deed x.step.body) p ps) same
      (step-most p.step.deed p.step.body q.step.body h.0.1.2.1 (good-step p ps good))
      (sums-most ps qs h.1 (good-rest p ps good))
    where
      both : (m n a a' b c d : ℕ) → m ≡ a + c → n ≡ b + d → a ≡ a' → (b ≤ a') ⊎ (most ≤ a') → (d ≤ c) ⊎ (most ≤ c) → (n ≤ m) ⊎ (most ≤ m)
      both m n a a' b c d i j e (inl f) (inl g) = inl (omega (arith, i, j, e, f, g))
      both m n a a' b c d i j e (inl f) (inr g) = inr (omega (arith, i, g))
      both m n a a' b c d i j e (inr f) g = inr (omega (arith, i, e, f))

  among-good : (a : Activation) → is_among_served w clear.depth trace a ≡ true → IsGood a.steps
  unfolding is_among_served
  among-good a e object g found bad =
      let one = found-each (λ h. same_name h.name object) (λ h. (not (enters_in h.name a) || serves w clear.depth trace h) ≡ true) w.shared g
      (all-true (λ h. not (enters_in h.name a) || serves w clear.depth trace h) w.shared e) found in
      let named : g.name ≡ object = (bytes_eq-Decides g.name object).0 (found-passes w.shared found) in
      ap (λ n. enters_in n a) (sym named) ∙ left-out (enters_in g.name a) (serves w clear.depth trace g) bad one
    where
      left-out : (x y : Bool) → y ≡ false → (not x || y) ≡ true → x ≡ false
      left-out false y f h = refl
      left-out true true f h = wrong f
      left-out true false f h = wrong (sym h)

      all-true : (test : Guarded → Bool) (gs : List Guarded) → list_all test gs ≡ true → Each (λ h. test h ≡ true) gs
      all-true test [] h = tt
      all-true test (x ∷ xs) h = let p = and_parts (test x) (list_all test xs) h in (p.0, all-true test xs p.1)

      found-passes : (gs : List Guarded) → find (λ h. same_name h.name object) gs ≡ Some g → same_name g.name object ≡ true
      found-passes [] f = absurd (none-some g f)
      found-passes (x ∷ xs) f = at (same_name x.name object) refl (found-passes xs)
        where
          at : (b : Bool) → same_name x.name object ≡ b → (find (λ h. same_name h.name object) xs ≡ Some g → same_name g.name object ≡ true)
              → same_name g.name object ≡ true
          at true t more =
              let F : Bool → Option Guarded = λ z. if z then Some x else find (λ h. same_name h.name object) xs in
              ap (λ h. same_name h.name object) (sym (same_Some x g (sym (ap F t) ∙ f))) ∙ t
          at false t more =
              let F : Bool → Option Guarded = λ z. if z then Some x else find (λ h. same_name h.name object) xs in more (sym (ap F t) ∙ f)

  -- what is charged rightly with any right ways is so with those that are computed
  pub charged-too : (a b : Activation) (p : Path) (used : ℕ) → Pairs Pair a.steps b.steps → is_among_served w clear.depth trace a ≡ true
      → used ≤ most → IsCharged w a p used → IsCharged w b p used
  charged-too a b p used pairs among few c =
      let good = among-good a among in
      record {
        at_least = least _ _ _ _ _ (sums-least a.steps b.steps pairs good) c.at_least;
        at_most = greatest _ _ _ _ (sums-most a.steps b.steps pairs good) c.at_most;
      }
    where
      least : (low x y finish n : ℕ) → x ≤ y → low + y + finish ≤ n → low + x + finish ≤ n
      least low x y finish n e f = omega (arith, e, f)

      greatest : (high x y finish : ℕ) → (x ≤ y) ⊎ (most ≤ y) → used ≤ high + x + finish → used ≤ high + y + finish
      greatest high x y finish (inl e) f = omega (arith, e, f)
      greatest high x y finish (inr e) f = omega (arith, e, few)
