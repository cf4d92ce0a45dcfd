-- A script that is read along: what its next event answers is what the first of the actions that are left answers.
use Rattle.std.proofs.Common.{◌≡◌, ℕ, suc, Bool, true, false, List, [], ◌∷◌, arith, drop, length, Option, Some, None, refl, sym, ap, subst, ◌∙◌}
use Rattle.std.specs.Prelude.{is_some}
use Rattle.std.specs.List.{cons_option}
use Rattle.seq_tree.specs.Lists.{Each}
use Rattle.seq_tree.specs.Runs.{Action}
use Rattle.ada_tree.specs.Programs.{Program}
use Rattle.guarantee.specs.Events.{named_event}
use Rattle.trace_tree.specs.Placed.{IsPlaced}
use Rattle.trace_tree.specs.declared.event.Event as machine
use Rattle.seq_eval.specs.Scripts.{is_over, of_next}
use Rattle.trace_scripts.specs.Scripts.{IsNext, IsAt, action_at, action_by, actions_at, first_action, left_of}
use Rattle.trace_scripts.proofs.Holding.{at-index}
use Rattle.trace_scripts.proofs.Passing.{placed-at}

module _ (p : Program) (es : List machine.Event) where
  -- THE EVENT AT AN INDEX
  pub nothing-at : (line : ℕ) → drop line es ≡ [] → action_at p es line ≡ None
  unfolding action_at
  nothing-at line none = ap (first_action p) none

  pub hidden-at : (line : ℕ) (e : machine.Event) → IsAt es line e → (b : Bool) → is_some (action_by p (named_event p e)) ≡ b → b ≡ false
      → action_at p es line ≡ None
  hidden-at line e at b is h = at-index p es line e at ∙ by (action_by p (named_event p e)) (is ∙ h)
    where
      by : (o : Option Action) → is_some o ≡ false → o ≡ None
      by None h = refl
      by (Some a) h = absurd (cc)

  pub next-here : (line : ℕ) (e : machine.Event) → Each (IsPlaced p) es → IsAt es line e → (b : Bool)
      → is_some (action_by p (named_event p e)) ≡ b → b ≡ true → IsNext p (Some e)
  next-here line e placed at b is h = (placed-at (IsPlaced p) es line e at placed, is ∙ h)

  -- THE NEXT INDEX
  pub line-past : (line : ℕ) (more left : List ℕ) (target : List Action) → left ≡ line ∷ more → action_at p es line ≡ None
      → actions_at p es left ≡ target → actions_at p es more ≡ target
  unfolding actions_at
  line-past line more left target l none h =
      ap (λ o. cons_option o (actions_at p es more)) (sym none) ∙ ap (actions_at p es) (sym l) ∙ h

  pub line-here : (line : ℕ) (more left : List ℕ) (target : List Action) (e : machine.Event) → left ≡ line ∷ more
      → action_at p es line ≡ action_by p (named_event p e) → actions_at p es left ≡ target → left_of p es (Some e) more ≡ target
  unfolding actions_at
  line-here line more left target e l is h =
      ap (λ o. cons_option o (actions_at p es more)) (sym is) ∙ ap (actions_at p es) (sym l) ∙ h

  pub line-last : (left : List ℕ) (target : List Action) → length left ≡ 0 → actions_at p es left ≡ target → [] ≡ target
  unfolding actions_at
  line-last [] target none h = h
  line-last (line ∷ more) target none h = absurd (let z : suc (length more) ≡ 0 = none in omega (arith, z))

  -- THE NEXT EVENT
  pub some-placed : (next : Option machine.Event) (e : machine.Event) → next ≡ Some e → IsNext p next → IsPlaced p e
  some-placed next e is h = (subst (IsNext p) is h).0

  pub none-over : (next : Option machine.Event) (more : List ℕ) → next ≡ None → true ≡ is_over (left_of p es next more)
  none-over next more is = ap (λ o. is_over (left_of p es o more)) (sym is)

  pub some-over : (next : Option machine.Event) (e : machine.Event) (more : List ℕ) → next ≡ Some e → IsNext p next
      → false ≡ is_over (left_of p es next more)
  some-over next e more is h =
      by (action_by p (named_event p e)) (subst (IsNext p) is h).1 ∙ ap (λ o. is_over (left_of p es o more)) (sym is)
    where
      by : (o : Option Action) → is_some o ≡ true → false ≡ is_over (cons_option o (actions_at p es more))
      by None k = absurd (cc)
      by (Some a) k = refl

  -- what is so of the next action is so of that of the event
  pub none-next : {A : Type 0} (f : Action → A) (none : A) (next : Option machine.Event) (more : List ℕ) → next ≡ None
      → none ≡ of_next f none (left_of p es next more)
  none-next f none next more is = ap (λ o. of_next f none (left_of p es o more)) (sym is)

  pub some-next : {A : Type 0} (f : Action → A) (none : A) (g : Option Action → A) → ((a : Action) → g (Some a) ≡ f a) → (next : Option machine.Event)
      (e : machine.Event) (more : List ℕ) → next ≡ Some e → IsNext p next → (r : A) → r ≡ g (action_by p (named_event p e))
      → r ≡ of_next f none (left_of p es next more)
  some-next {A} f none g same next e more is h r does =
      does ∙ by (action_by p (named_event p e)) (subst (IsNext p) is h).1 ∙ ap (λ o. of_next f none (left_of p es o more)) (sym is)
    where
      by : (o : Option Action) → is_some o ≡ true → g o ≡ of_next f none (cons_option o (actions_at p es more))
      by None k = absurd (cc)
      by (Some a) k = same a

  -- the script behind the next action
  pub next-passed : (next : Option machine.Event) (more : List ℕ) (b : Bool) → is_some next ≡ b → b ≡ true → IsNext p next → (us : List Action)
      → us ≡ actions_at p es more → us ≡ drop 1 (left_of p es next more)
  next-passed None more b is f h us e = absurd (cc)
  next-passed (Some e') more b is f h us e = e ∙ by (action_by p (named_event p e')) h.1
    where
      by : (o : Option Action) → is_some o ≡ true → actions_at p es more ≡ drop 1 (cons_option o (actions_at p es more))
      by None k = absurd (cc)
      by (Some a) k = refl
