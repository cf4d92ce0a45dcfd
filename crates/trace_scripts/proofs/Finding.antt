-- The first of what is made of units, one at most of each, for which a test fails.
use Rattle.std.proofs.Common.{◌≡◌, ℕ, ◌+◌, Bool, true, false, not, List, ◌∷◌, drop, Option, Some, None, refl, sym, ap, ◌∙◌}
use Rattle.std.specs.Prelude.{find, filter_map, slice_get, option_map, option_and_then, if◌then◌else◌}
use Rattle.std.specs.List.{cons_option}
use Rattle.std.proofs.lemmas.Option.{get_or_from_slice_get}
use Rattle.seq_tree.proofs.Shared.LoopSteps.{drop_step}
use Rattle.seq_tree.specs.Names.{Name}
use Rattle.ada_tree.specs.Programs.{Program, Unit}
use Rattle.trace_tree.specs.Lines.{unit_name}
use Rattle.trace_tree.specs.Placed.{IsUnit}
use Rattle.law_trace_places.proofs.Shared.Units.{item-at, name-is}

-- whether a test holds of what is made, where it is
abbrev pub passes : {X : Type 0} → (X → Bool) → Option X → Bool
passes good None = true
passes good (Some x) = good x

module _ {X : Type 0} (make : Unit → Option X) (called : X → Name) (keeps : (u : Unit) (x : X) → make u ≡ Some x → called x ≡ u.name)
    (p : Program) (at : ℕ) (in' : IsUnit p at) (good : X → Bool) (target : Option X)
    (all : find (λ x. not (good x)) (filter_map make (drop at p.units)) ≡ target) (b : Bool)
    (is : b ≡ passes good (option_and_then make (slice_get p.units at))) where
  abbrev test : X → Bool
  test x = not (good x)

  abbrev here : (u : Unit) × (slice_get p.units at ≡ Some u)
  here = item-at p.units at in'

  from-here : drop at p.units ≡ here.0 ∷ drop (at + 1) p.units
  from-here = drop_step p.units at here.0 in' (sym (get_or_from_slice_get p.units at here.0 here.0 here.1))

  passes-here : b ≡ passes good (make here.0)
  passes-here = is ∙ ap (λ o. passes good (option_and_then make o)) here.1

  one-of : (u : Unit) (us : List Unit) → find test (filter_map make (u ∷ us))
      ≡ (if passes good (make u) then find test (filter_map make us) else make u)
  one-of u us = by (make u)
    where
      by : (o : Option X) → find test (cons_option o (filter_map make us)) ≡ (if passes good o then find test (filter_map make us) else o)
      by None = refl
      by (Some x) = one (good x)
        where
          one : (z : Bool) → (if not z then Some x else find test (filter_map make us)) ≡ (if z then find test (filter_map make us) else Some x)
          one true = refl
          one false = refl

  split : (if b then find test (filter_map make (drop (at + 1) p.units)) else make here.0) ≡ target
  split =
      ap (λ z. if z then find test (filter_map make (drop (at + 1) p.units)) else make here.0) passes-here
      ∙ sym (one-of here.0 (drop (at + 1) p.units)) ∙ sym (ap (λ us. find test (filter_map make us)) from-here) ∙ all

  pub found-past : b ≡ true → find test (filter_map make (drop (at + 1) p.units)) ≡ target
  found-past e = sym (ap (λ z. if z then find test (filter_map make (drop (at + 1) p.units)) else make here.0) e) ∙ split

  named-by : (o : Option X) → make here.0 ≡ o → passes good o ≡ false → option_map called o ≡ Some here.0.name
  named-by None e f = absurd (cc)
  named-by (Some x) e f = ap (λ n. Some n) (keeps here.0 x e)

  pub found-here : b ≡ false → Some (unit_name p at) ≡ option_map called target
  found-here e =
      ap (λ n. Some n) (name-is p at here.0 here.1) ∙ sym (named-by (make here.0) refl (sym passes-here ∙ e))
      ∙ ap (option_map called) (sym (ap (λ z. if z then find test (filter_map make (drop (at + 1) p.units)) else make here.0) e) ∙ split)
