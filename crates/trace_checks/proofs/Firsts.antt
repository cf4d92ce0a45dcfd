-- The first unit for which something isn't as it should be, as events come: each event changes what is kept of one unit at most.
use Rattle.std.proofs.Common.{◌≡◌, ℕ, zero, suc, Bool, true, false, not, List, [], ◌∷◌, map, Option, Some, None, refl, sym, ap, ◌∙◌, arith}
use Rattle.std.specs.Prelude.{◌==◌, cond, find, filter_map, slice_get, option_map, if◌then◌else◌}
use Rattle.std.specs.List.{cons_option}
use Rattle.std.proofs.lemmas.Bool.{ne_eqb}
use Rattle.seq_tree.specs.Lists.{change}
use Rattle.seq_tree.specs.Names.{Name, same_name}
use Rattle.ada_tree.specs.Programs.{Unit}
use Rattle.guarantee.specs.Events.{Event}
use Rattle.guarantee.specs.Software.{Task}
use Rattle.law_trace_places.specs.Places.{task_in}
use Rattle.law_trace_places.proofs.Shared.Units.{suc-same, task-name}
use Rattle.trace_checks.specs.First.{first_failing}

module _ {S : Type 0} (A : Unit → S → List Event → Bool) (e : Event) where
  step : (u : Unit) (us : List Unit) (s s' : S) (ss ss' : List S) (told : List Event) → A u s' told ≡ A u s (e ∷ told)
      → first_failing A us ss' told ≡ first_failing A us ss (e ∷ told)
      → first_failing A (u ∷ us) (s' ∷ ss') told ≡ first_failing A (u ∷ us) (s ∷ ss) (e ∷ told)
  step u us s s' ss ss' told here more =
      ap (λ b. if b then first_failing A us ss' told else Some u.name) here
      ∙ ap (λ o. if A u s (e ∷ told) then o else Some u.name) more

  -- an event that concerns no unit
  pub unnoted : (us : List Unit) (ss : List S) → ((u : Unit) (s : S) (told : List Event) → A u s told ≡ A u s (e ∷ told)) → (told : List Event)
      → first_failing A us ss told ≡ first_failing A us ss (e ∷ told)
  unnoted [] ss h told = refl
  unnoted (u ∷ us) [] h told = refl
  unnoted (u ∷ us) (s ∷ ss) h told = step u us s s ss ss told (h u s told) (unnoted us ss h told)

  module _ (name : Name) (others : (u : Unit) (s : S) (told : List Event) → same_name name u.name ≡ false → A u s told ≡ A u s (e ∷ told)) where
    far : (us : List Unit) (ss : List S) → ((i : ℕ) (u : Unit) → slice_get us i ≡ Some u → same_name name u.name ≡ false) → (told : List Event)
        → first_failing A us ss told ≡ first_failing A us ss (e ∷ told)
    far [] ss h told = refl
    far (u ∷ us) [] h told = refl
    far (u ∷ us) (s ∷ ss) h told =
        step u us s s ss ss told (others u s told (h zero u refl)) (far us ss (λ i v at. h (suc i) v at) told)

    -- an event that concerns the unit of this name
    pub noted : (us : List Unit) (ss : List S) (task : ℕ) (f : S → S)
        → ((i : ℕ) (u : Unit) → slice_get us i ≡ Some u → same_name name u.name ≡ (task == i))
        → ((u : Unit) (s : S) (told : List Event) → slice_get us task ≡ Some u → slice_get ss task ≡ Some s → A u (f s) told ≡ A u s (e ∷ told))
        → (told : List Event) → first_failing A us (change task f ss) told ≡ first_failing A us ss (e ∷ told)
    noted [] ss task f names here told = refl
    noted (u ∷ us) [] zero f names here told = refl
    noted (u ∷ us) [] (suc task) f names here told = refl
    noted (u ∷ us) (s ∷ ss) zero f names here told =
        step u us s (f s) ss ss told (here u s told refl refl)
        (far us ss (λ i v at. names (suc i) v at ∙ ne_eqb zero (suc i) (λ z. let y : zero ≡ suc i = z in absurd (omega (arith, y)))) told)
    noted (u ∷ us) (s ∷ ss) (suc task) f names here told =
        step u us s s ss (change task f ss) told
        (others u s told (names zero u refl ∙ ne_eqb (suc task) zero (λ z. let y : suc task ≡ zero = z in absurd (omega (arith, y)))))
        (noted us ss task f (λ i v at. names (suc i) v at ∙ sym (suc-same task i)) (λ v t more at to. here v t more at to) told)

-- THE FIRST THREAD for which a test fails
abbrev pub tested : (Task → Bool) → Option Task → Bool
tested test None = true
tested test (Some t) = test t

pub first-thread : {S : Type 0} (A : Unit → S → List Event → Bool) (first : Unit → S) (test : Task → Bool) (told : List Event)
    → ((u : Unit) → A u (first u) told ≡ tested test (task_in u))
    → (us : List Unit) → first_failing A us (map first us) told ≡ option_map (λ t. t.name) (find (λ t. not (test t)) (filter_map task_in us))
first-thread A first test told h [] = refl
first-thread A first test told h (u ∷ us) =
    ap (λ b. if b then first_failing A us (map first us) told else Some u.name) (h u)
    ∙ by (task_in u) refl (first-thread A first test told h us)
  where
    more : Option Name
    more = first_failing A us (map first us) told

    by : (o : Option Task) → task_in u ≡ o → more ≡ option_map (λ t. t.name) (find (λ t. not (test t)) (filter_map task_in us))
        → (if tested test (task_in u) then more else Some u.name)
        ≡ option_map (λ t. t.name) (find (λ t. not (test t)) (cons_option (task_in u) (filter_map task_in us)))
    by None at rest =
        ap (λ o. if tested test o then more else Some u.name) at ∙ rest
        ∙ sym (ap (λ o. option_map (λ t. t.name) (find (λ t. not (test t)) (cons_option o (filter_map task_in us)))) at)
    by (Some t) at rest =
        ap (λ o. if tested test o then more else Some u.name) at ∙ one (test t) refl
        ∙ sym (ap (λ o. option_map (λ t. t.name) (find (λ t. not (test t)) (cons_option o (filter_map task_in us)))) at)
      where
        one : (b : Bool) → test t ≡ b → (if test t then more else Some u.name)
            ≡ option_map (λ t. t.name) (cond (not (test t)) (Some t) (find (λ t. not (test t)) (filter_map task_in us)))
        one true e =
            ap (λ b. if b then more else Some u.name) e ∙ rest
            ∙ sym (ap (λ b. option_map (λ (t : Task). t.name) (cond (not b) (Some t) (find (λ t. not (test t)) (filter_map task_in us)))) e)
        one false e =
            ap (λ b. if b then more else Some u.name) e ∙ ap (λ n. Some n) (sym (task-name u t at))
            ∙ sym (ap (λ b. option_map (λ (t : Task). t.name) (cond (not b) (Some t) (find (λ t. not (test t)) (filter_map task_in us)))) e)
