-- What is read behind an entry, by places, is what the definitions say of it, by names.
use Rattle.std.proofs.Common.{◌≡◌, ℕ, zero, suc, Bool, true, false, ◌&&◌, ◌||◌, List, [], ◌∷◌, drop, Option, Some}
use Rattle.std.proofs.Common.{refl, sym, ap, ◌∙◌, arith}
use Rattle.std.specs.Prelude.{◌==◌, slice_get, option_map, if◌then◌else◌}
use Rattle.std.proofs.lemmas.Bool.{eqb-true, eq-eqb, ne_eqb}
use Rattle.std.proofs.Math.Bool.{and-true, and-false}
use Rattle.seq_tree.specs.Lists.{Each, change}
use Rattle.seq_tree.specs.Names.{same_name}
use Rattle.seq_tree.specs.Runs as runs
use Rattle.ada_tree.specs.Programs.{Program}
use Rattle.ada_tree.specs.Rules.{MeetsRules}
use Rattle.trace_tree.specs.Lines.{unit_name}
use Rattle.trace_tree.specs.Placed.{IsPlaced, IsUnit}
use Rattle.trace_tree.specs.declared.event.Event as machine
use Rattle.trace_tree.specs.declared.event.Event.TheVariants as event
use Rattle.guarantee.specs.Software.{Software, program_software}
use Rattle.guarantee.specs.Events.{Deed, Release, Arrive, Enter, Leave, Request, Print, End, Stop, By, named, named_event, op_at}
use Rattle.guarantee.specs.Steps.{is_own}
use Rattle.law_traces.specs.Checks.{action_of, both, does_in, is_passed, scripted}
use Rattle.law_trace_places.proofs.Shared.Units.{unit-names}
use Rattle.law_traces.specs.Entries as entries
use Rattle.law_traces.specs.Entries.{Shown, shown_at, with_action, stack_of, entry_at, entries_in}
use Rattle.law_traces.proofs.Shared.Stacks.{stack-by, inside-shown}
use Rattle.trace_read.specs.Deeds.{passed_in}
use Rattle.trace_read.specs.declared.deeds.Part.TheVariants.{Other, Plain, Opens, Closes}
use Rattle.trace_scripts.specs.Insides.{entries_from, entry_from, inside_by, inside_from}

-- A LIST with one item changed
pub get-changed : {A : Type 0} (i j : ℕ) (f : A → A) (xs : List A) (x : A) → slice_get xs j ≡ Some x
    → slice_get (change i f xs) j ≡ Some (if i == j then f x else x)
get-changed i j f [] x e = absurd (cc)
get-changed zero zero f (y ∷ ys) x e = ap (option_map f) e
get-changed zero (suc j) f (y ∷ ys) x e =
    e ∙ ap (λ b. Some (if b then f x else x)) (sym (ne_eqb zero (suc j) (λ g. let h : zero ≡ suc j = g in absurd (omega (arith, h)))))
get-changed (suc i) zero f (y ∷ ys) x e =
    e ∙ ap (λ b. Some (if b then f x else x)) (sym (ne_eqb (suc i) zero (λ g. let h : suc i ≡ zero = g in absurd (omega (arith, h)))))
get-changed {A} (suc i) (suc j) f (y ∷ ys) x e =
    get-changed i j f ys x e ∙ ap (λ b. Some (if b then f x else x)) (suc-same i j)
  where
    suc-same : (i j : ℕ) → (i == j) ≡ (suc i == suc j)
    suc-same i j = by (i == j) refl (suc i == suc j) refl
      where
        by : (a : Bool) → (i == j) ≡ a → (b : Bool) → (suc i == suc j) ≡ b → a ≡ b
        by true e true f = refl
        by false e false f = refl
        by true e false f = let g : i ≡ j = eqb-true i j e in let h = eq-eqb (suc i) (suc j) (ap suc g) in absurd (cc)
        by false e true f =
            let g : suc i ≡ suc j = eqb-true (suc i) (suc j) f in
            let h = eq-eqb i j (omega (arith, g)) in absurd (cc)

-- levels behind the first ones
drop-one : (d : ℕ) (ss : List Shown) → shown_at d (drop 1 ss) ≡ shown_at (suc d) ss
drop-one d [] = refl
drop-one d (s ∷ ss) = refl

drop-two : (d : ℕ) (ss : List Shown) → shown_at d (drop 2 ss) ≡ shown_at (suc (suc d)) ss
drop-two d [] = refl
drop-two d (s ∷ []) = refl
drop-two d (s ∷ r ∷ ss) = refl

none-shown : (d : ℕ) → (let s : Shown = Some [] in s) ≡ shown_at d []
none-shown zero = refl
none-shown (suc d) = refl

-- ONE DEED in front of levels, where it is of the thread
module _ (a : Option runs.Action) (ss : List Shown) (more : ℕ → Shown) (h : (d : ℕ) → more d ≡ shown_at d ss) where
  plain-level : (b : Bool) (d : ℕ)
      → inside_by (if b then Plain else Other) d a more ≡ shown_at d (if b then both a (shown_at 0 ss) ∷ drop 1 ss else ss)
  plain-level true zero = ap (both a) (h 0)
  plain-level true (suc d) = h (suc d) ∙ sym (drop-one d ss)
  plain-level false d = h d

  entry-level : (b : Bool) (d : ℕ)
      → inside_by (if b then Opens else Other) d a more ≡ shown_at d (if b then both a (shown_at 1 ss) ∷ drop 2 ss else ss)
  entry-level true zero = ap (both a) (h 1)
  entry-level true (suc d) = h (suc (suc d)) ∙ sym (drop-two d ss)
  entry-level false d = h d

  exit-level : (b : Bool) (d : ℕ)
      → inside_by (if b then Closes else Other) d a more ≡ shown_at d (if b then Some [] ∷ both a (shown_at 0 ss) ∷ drop 1 ss else ss)
  exit-level true zero = refl
  exit-level true (suc zero) = ap (both a) (h 0)
  exit-level true (suc (suc d)) = h (suc d) ∙ sym (drop-one d ss)
  exit-level false d = h d

module _ (p : Program) (meets : MeetsRules p) where
  abbrev w : Software
  w = program_software p

  abbrev stack : ℕ → List machine.Event → List Shown
  stack task es = stack_of w (unit_name p task) (named p es)

  -- the levels of a thread with a deed in front
  own-stack : (time own task : ℕ) (deed : Deed) (es : List machine.Event) → IsUnit p own → IsUnit p task → is_own deed ≡ true
      → stack_of w (unit_name p task) (By time (unit_name p own) deed ∷ named p es)
      ≡ (if own == task then with_action deed (action_of w deed) (stack task es) else stack task es)
  own-stack time own task deed es i k is =
      let F : Bool → List Shown = λ b. if b then with_action deed (action_of w deed) (stack task es) else stack task es in
      stack-by w (unit_name p task) time (unit_name p own) deed (named p es)
      ∙ ap (λ z. F (same_name (unit_name p own) (unit_name p task) && z)) is
      ∙ ap F (and-true (same_name (unit_name p own) (unit_name p task))) ∙ ap F (unit-names p meets own task i k)

  other-stack : (time own task : ℕ) (deed : Deed) (es : List machine.Event) → is_own deed ≡ false
      → stack_of w (unit_name p task) (By time (unit_name p own) deed ∷ named p es) ≡ stack task es
  other-stack time own task deed es is =
      let F : Bool → List Shown = λ b. if b then with_action deed (action_of w deed) (stack task es) else stack task es in
      stack-by w (unit_name p task) time (unit_name p own) deed (named p es)
      ∙ ap (λ z. F (same_name (unit_name p own) (unit_name p task) && z)) is
      ∙ ap F (and-false (same_name (unit_name p own) (unit_name p task)))

  -- what is shown inside an operation
  inside-named : (es : List machine.Event) → Each (IsPlaced p) es → (task : ℕ) → IsUnit p task → (d : ℕ)
      → inside_from p task es d ≡ shown_at d (stack task es)
  unfolding inside_from
  inside-named [] h task k d = none-shown d
  inside-named (event.Release time own value ∷ es) h task k d =
      plain-level (action_of w (Release value)) (stack task es) (inside_from p task es) (inside-named es h.1 task k) (own == task) d
      ∙ ap (shown_at d) (sym (own-stack time own task (Release value) es h.0 k refl))
  inside-named (event.Arrive time own value ∷ es) h task k d =
      inside-named es h.1 task k d ∙ ap (shown_at d) (sym (other-stack time own task (Arrive value) es refl))
  inside-named (event.Enter time own unit op values ∷ es) h task k d =
      entry-level (action_of w (Enter (op_at p unit op) values)) (stack task es) (inside_from p task es) (inside-named es h.1 task k) (own == task) d
      ∙ ap (shown_at d) (sym (own-stack time own task (Enter (op_at p unit op) values) es h.0.0 k refl))
  inside-named (event.Leave time own unit op values ∷ es) h task k d =
      exit-level (action_of w (Leave (op_at p unit op) values)) (stack task es) (inside_from p task es) (inside-named es h.1 task k) (own == task) d
      ∙ ap (shown_at d) (sym (own-stack time own task (Leave (op_at p unit op) values) es h.0.0 k refl))
  inside-named (event.Request time own target value ∷ es) h task k d =
      plain-level (action_of w (Request (unit_name p target) value)) (stack task es) (inside_from p task es) (inside-named es h.1 task k) (own == task) d
      ∙ ap (shown_at d) (sym (own-stack time own task (Request (unit_name p target) value) es h.0.0 k refl))
  inside-named (event.Print time own value ∷ es) h task k d =
      plain-level (action_of w (Print value)) (stack task es) (inside_from p task es) (inside-named es h.1 task k) (own == task) d
      ∙ ap (shown_at d) (sym (own-stack time own task (Print value) es h.0 k refl))
  inside-named (event.End time own used ∷ es) h task k d =
      plain-level (action_of w (End used)) (stack task es) (inside_from p task es) (inside-named es h.1 task k) (own == task) d
      ∙ ap (shown_at d) (sym (own-stack time own task (End used) es h.0 k refl))
  inside-named (event.Stop time own unit priority ceiling ∷ es) h task k d =
      plain-level (action_of w (Stop (unit_name p unit) priority ceiling)) (stack task es) (inside_from p task es) (inside-named es h.1 task k)
      (own == task) d
      ∙ ap (shown_at d) (sym (own-stack time own task (Stop (unit_name p unit) priority ceiling) es h.0.0 k refl))
  inside-named (event.Horizon time ∷ es) h task k d = inside-named es h.1 task k d

  -- whether an object is passed
  passed-named : (es : List machine.Event) → Each (IsPlaced p) es → (unit : ℕ) → IsUnit p unit
      → passed_in unit es ≡ is_passed (unit_name p unit) (named p es)
  unfolding passed_in
  passed-named [] h unit k = refl
  passed-named (event.Release time own value ∷ es) h unit k = passed-named es h.1 unit k
  passed-named (event.Arrive time own value ∷ es) h unit k = passed-named es h.1 unit k
  passed-named (event.Enter time own other op values ∷ es) h unit k =
      ap (λ z. z || passed_in unit es) (sym (unit-names p meets other unit h.0.1 k))
      ∙ ap (λ z. same_name (unit_name p other) (unit_name p unit) || z) (passed-named es h.1 unit k)
  passed-named (event.Leave time own other op values ∷ es) h unit k =
      ap (λ z. z || passed_in unit es) (sym (unit-names p meets other unit h.0.1 k))
      ∙ ap (λ z. same_name (unit_name p other) (unit_name p unit) || z) (passed-named es h.1 unit k)
  passed-named (event.Request time own target value ∷ es) h unit k = passed-named es h.1 unit k
  passed-named (event.Print time own value ∷ es) h unit k = passed-named es h.1 unit k
  passed-named (event.End time own used ∷ es) h unit k = passed-named es h.1 unit k
  passed-named (event.Stop time own other priority ceiling ∷ es) h unit k = passed-named es h.1 unit k
  passed-named (event.Horizon time ∷ es) h unit k = passed-named es h.1 unit k

  -- what is known of an event
  known-event : (e : machine.Event) (es : List machine.Event) → IsPlaced p e → Each (IsPlaced p) es
      → entry_from p e es ≡ entry_at w (named_event p e) (named p es)
  unfolding entry_from
  known-event (event.Enter time task unit op values) es at h =
      let F : Shown → Bool → entries.Entry = λ s b. record { script = s; again = b } in
      ap (λ s. F s (passed_in unit es)) (inside-named es h task at.0 0 ∙ sym (inside-shown w (unit_name p task) (named p es)))
      ∙ ap (F (scripted w (does_in (unit_name p task) (named p es)))) (passed-named es h unit at.1)
  known-event (event.Release time task value) es at h = refl
  known-event (event.Arrive time task value) es at h = refl
  known-event (event.Leave time task unit op values) es at h = refl
  known-event (event.Request time task target value) es at h = refl
  known-event (event.Print time task value) es at h = refl
  known-event (event.End time task used) es at h = refl
  known-event (event.Stop time task unit priority ceiling) es at h = refl
  known-event (event.Horizon time) es at h = refl

  -- ALL EVENTS
  pub entries-named : (es : List machine.Event) → Each (IsPlaced p) es → entries_from p es ≡ entries_in w (named p es)
  unfolding entries_from
  entries-named [] h = refl
  entries-named (e ∷ es) h =
      ap (λ x. x ∷ entries_from p es) (known-event e es h.0 h.1)
      ∙ ap (λ xs. entry_at w (named_event p e) (named p es) ∷ xs) (entries-named es h.1)
