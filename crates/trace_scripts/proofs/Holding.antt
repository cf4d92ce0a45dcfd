-- A script with one event more, in front of what is shown behind it.
use Rattle.std.proofs.Common.{◌≡◌, ℕ, Bool, true, false, List, [], ◌∷◌, ◌++◌, Option, Some, None, refl, sym, ap, ◌∙◌, append_assoc}
use Rattle.std.specs.Prelude.{is_some, if◌then◌else◌}
use Rattle.std.specs.List.{cons_option}
use Rattle.seq_tree.specs.Runs as runs
use Rattle.ada_tree.specs.Programs.{Program}
use Rattle.guarantee.specs.Events.{named_event}
use Rattle.trace_tree.specs.declared.event.Event as machine
use Rattle.law_traces.specs.Checks.{both}
use Rattle.law_traces.specs.Entries.{Shown}
use Rattle.law_traces.specs.Progress.{with_last}
use Rattle.trace_scripts.specs.Insides.{joined}
use Rattle.trace_scripts.specs.Scripts.{IsAt, action_at, action_by, actions_at, first_action, shown_of}
use Rattle.trace_scripts.specs.declared.scripts.Script.{Script}

pub last-front : (s : Shown) (a : Option runs.Action) (more : Shown) → joined (with_last s a) more ≡ joined s (both a more)
last-front None a more = refl
last-front (Some as') None more = refl
last-front (Some as') (Some a) None = refl
last-front (Some as') (Some a) (Some bs) = ap (λ z. let o : Shown = Some z in o) (append_assoc as' (a ∷ []) bs)

onto-both : {A : Type 0} (o : Option A) (xs ys : List A) → cons_option o (xs ++ ys) ≡ cons_option o xs ++ ys
onto-both None xs ys = refl
onto-both (Some x) xs ys = refl

module _ (p : Program) (es : List machine.Event) (here : ℕ) where
  -- the event at an index
  pub at-index : (e : machine.Event) → IsAt es here e → action_at p es here ≡ action_by p (named_event p e)
  unfolding action_at
  at-index e at = ap (first_action p) at

  actions-more : (lines : List ℕ) → actions_at p es (lines ++ here ∷ []) ≡ actions_at p es lines ++ cons_option (action_at p es here) []
  unfolding actions_at
  actions-more [] = refl
  actions-more (l ∷ ls) =
      ap (cons_option (action_at p es l)) (actions-more ls)
      ∙ onto-both (action_at p es l) (actions_at p es ls) (cons_option (action_at p es here) [])

  abbrev held : Bool → List ℕ → Shown
  held b lines = if b then Some (actions_at p es lines) else None

  one-more : (b : Bool) (lines : List ℕ) (o : Option runs.Action) → is_some o ≡ true → (xs : List runs.Action)
      → xs ≡ actions_at p es lines ++ cons_option o []
      → (let s : Shown = if b then Some xs else None in s) ≡ with_last (held b lines) o
  one-more false lines o some xs e = refl
  one-more true lines None some xs e = absurd (cc)
  one-more true lines (Some a) some xs e = ap (λ z. let s : Shown = Some z in s) e

  pub shown-more : (before after : Script) → is_some (action_at p es here) ≡ true → after.shows ≡ before.shows
      → after.lines.items ≡ before.lines.items ++ here ∷ [] → shown_of p es after ≡ with_last (shown_of p es before) (action_at p es here)
  shown-more before after some same lines =
      ap (λ b. held b after.lines.items) same ∙ ap (held before.shows) lines
      ∙ one-more before.shows before.lines.items (action_at p es here) some (actions_at p es (before.lines.items ++ here ∷ []))
      (actions-more before.lines.items)

  none-last : (s : Shown) (o : Option runs.Action) → is_some o ≡ false → (let r : Shown = None in r) ≡ with_last s o
  none-last None o e = refl
  none-last (Some as') None e = refl
  none-last (Some as') (Some a) e = absurd (cc)

  pub shown-none : (before after : Script) → is_some (action_at p es here) ≡ false → after.shows ≡ false
      → shown_of p es after ≡ with_last (shown_of p es before) (action_at p es here)
  shown-none before after none hides =
      ap (λ b. held b after.lines.items) hides ∙ none-last (shown_of p es before) (action_at p es here) none

-- an event that is added
pub added : (p : Program) (es : List machine.Event) (here : ℕ) (e : machine.Event) → IsAt es here e → (b : Bool)
    → is_some (action_by p (named_event p e)) ≡ b → (s s' : Shown)
    → (is_some (action_at p es here) ≡ b → s' ≡ with_last s (action_at p es here))
    → (more : Shown) → joined s' more ≡ joined s (both (action_by p (named_event p e)) more)
added p es here e at b is s s' adds more =
    let same : action_at p es here ≡ action_by p (named_event p e) = at-index p es here e at in
    ap (λ z. joined z more) (adds (ap is_some same ∙ is)) ∙ last-front s (action_at p es here) more
    ∙ ap (λ o. joined s (both o more)) same
