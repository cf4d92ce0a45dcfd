-- What is read ahead behind an entry, one event of its task at a time.
use Rattle.std.proofs.Common.{◌≡◌, ℕ, zero, suc, Bool, true, false, List, [], ◌∷◌, drop, Option, Some, None, refl, sym, ap, subst, ◌∙◌, append-nil}
use Rattle.seq_tree.specs.Runs as runs
use Rattle.ada_tree.specs.Programs.{Program}
use Rattle.trace_tree.specs.declared.event.Event as machine
use Rattle.guarantee.specs.Events.{named_event}
use Rattle.law_traces.specs.Checks.{both}
use Rattle.law_traces.specs.Entries.{Shown}
use Rattle.trace_read.specs.Deeds.{Reaches, exit_by, from_exit, from_own, own_by, part_of}
use Rattle.trace_read.specs.declared.deeds.Part.{Part}
use Rattle.trace_read.specs.declared.deeds.Part.TheVariants.{Other, Plain, Opens, Closes}
use Rattle.trace_scripts.specs.Insides.{after_if, inside_by, inside_from, joined}
use Rattle.trace_scripts.specs.Scripts.{IsAt, action_by}

-- nothing in front, and nothing behind
pub front-none : (s : Shown) → joined (Some []) s ≡ s
front-none None = refl
front-none (Some as') = refl

pub back-none : (s : Shown) → joined s (Some []) ≡ s
back-none None = refl
back-none (Some as') = ap (λ z. let o : Shown = Some z in o) (append-nil as')

module _ (p : Program) (task : ℕ) where
  abbrev act : machine.Event → Option runs.Action
  act e = action_by p (named_event p e)

  -- the events of others are passed over
  own-by : (e : machine.Event) (es : List machine.Event) (part : Part) → part_of task e ≡ part
      → inside_from p task es 0 ≡ inside_from p task (from_own task es) 0
      → inside_from p task (e ∷ es) 0 ≡ inside_from p task (own_by part (e ∷ es) (from_own task es)) 0
  unfolding inside_from
  own-by e es Other is more = ap (λ z. inside_by z 0 (act e) (inside_from p task es)) is ∙ more
  own-by e es Plain is more = refl
  own-by e es Opens is more = refl
  own-by e es Closes is more = refl

  own-inside : (es : List machine.Event) → inside_from p task es 0 ≡ inside_from p task (from_own task es) 0
  unfolding from_own
  own-inside [] = refl
  own-inside (e ∷ es) = own-by e es (part_of task e) refl (own-inside es)

  -- what is shown inside one operation more is the exit from that one, and what is shown behind it
  abbrev behind_exit : List machine.Event → Shown
  behind_exit [] = Some []
  behind_exit (x ∷ xs) = both (act x) (inside_from p task xs 0)

  at-part : (e : machine.Event) (es : List machine.Event) → ((d : ℕ) → inside_from p task es (suc d) ≡ behind_exit (from_exit task es d))
      → (part : Part) (d : ℕ) → inside_by part (suc d) (act e) (inside_from p task es) ≡ behind_exit (exit_by part d (e ∷ es) (from_exit task es))
  at-part e es more Other d = more d
  at-part e es more Plain d = more d
  at-part e es more Opens d = more (suc d)
  at-part e es more Closes zero = refl
  at-part e es more Closes (suc d) = more d

  exit-inside : (es : List machine.Event) (d : ℕ) → inside_from p task es (suc d) ≡ behind_exit (from_exit task es d)
  unfolding inside_from from_exit
  exit-inside [] d = refl
  exit-inside (e ∷ es) d = at-part e es (exit-inside es) (part_of task e) d

  -- an entry, with the exit or without
  pub passage-left : (es : List machine.Event) (x : machine.Event) (xs : List machine.Event) → from_exit task es 0 ≡ x ∷ xs
      → (a : Option runs.Action) (s s' s'' : Shown) → ((more : Shown) → joined s' more ≡ joined s (both a more))
      → ((more : Shown) → joined s'' more ≡ joined s' (both (act x) more))
      → joined s'' (inside_from p task xs 0) ≡ joined s (both a (inside_from p task es 1))
  passage-left es x xs is a s s' s'' enters leaves =
      leaves (inside_from p task xs 0) ∙ enters (both (act x) (inside_from p task xs 0))
      ∙ ap (λ z. joined s (both a z)) (sym (exit-inside es 0 ∙ ap behind_exit is))

  pub passage-open : (es : List machine.Event) → from_exit task es 0 ≡ [] → (a : Option runs.Action) (s s' : Shown)
      → ((more : Shown) → joined s' more ≡ joined s (both a more)) → s' ≡ joined s (both a (inside_from p task es 1))
  passage-open es is a s s' enters =
      sym (back-none s') ∙ enters (Some []) ∙ ap (λ z. joined s (both a z)) (sym (exit-inside es 0 ∙ ap behind_exit is))

  -- an event of the task, by what it is
  pub by-part : (here rest : List machine.Event) (e : machine.Event) → here ≡ e ∷ rest → (part : Part) → part ≡ part_of task e
      → inside_by part 0 (act e) (inside_from p task rest) ≡ inside_from p task here 0
  unfolding inside_from
  by-part here rest e at part is =
      ap (λ z. inside_by z 0 (act e) (inside_from p task rest)) is ∙ ap (λ z. inside_from p task z 0) (sym at)

  -- the next event of the task
  pub next-reached : (es : List machine.Event) (last index : ℕ) (e : machine.Event)
      → Reaches es (from_own task (drop (suc last) es)) last index (Some e)
      → inside_from p task (drop index es) 0 ≡ inside_from p task (drop (suc last) es) 0
  next-reached es last index e r = ap (λ z. inside_from p task z 0) r.0 ∙ sym (own-inside (drop (suc last) es))

  pub none-reached : (es : List machine.Event) → from_own task es ≡ [] → inside_from p task es 0 ≡ Some []
  unfolding inside_from
  none-reached es none = own-inside es ∙ ap (λ z. inside_from p task z 0) none

pub reached-at : (es these : List machine.Event) (last index : ℕ) (e : machine.Event) → Reaches es these last index (Some e) → IsAt es index e
reached-at es these last index e r = r.0 ∙ r.1

pub more-behind : (b : Bool) (s more target : Shown) → b ≡ true → after_if b s more ≡ target → joined s more ≡ target
more-behind b s more target is h = subst (λ z. after_if z s more ≡ target) is h

pub none-behind : (b : Bool) (s more target : Shown) → b ≡ false → after_if b s more ≡ target → s ≡ target
none-behind b s more target is h = subst (λ z. after_if z s more ≡ target) is h
