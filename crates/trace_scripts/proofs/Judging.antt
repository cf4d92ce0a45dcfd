-- The verdict on threads and objects, by the first of each that is wrong.
use Rattle.std.proofs.Common.{◌≡◌, ℕ, List, not, Option, Some, None, sym, ap, refl, ◌∙◌}
use Rattle.std.specs.Prelude.{find, option_map}
use Rattle.std.proofs.lemmas.Option.{none-some, same_Some}
use Rattle.seq_tree.specs.Names.{Name}
use Rattle.ada_tree.specs.Programs.{Program}
use Rattle.trace_tree.specs.Lines.{unit_name}
use Rattle.guarantee.specs.Software.{Software}
use Rattle.guarantee.specs.Events.{Event}
use Rattle.law_traces.specs.Checks.{follows, serves}
use Rattle.law_traces.specs.Verdicts.{Verdict, Script, Shared, first_or}
use Rattle.trace_scripts.specs.Wrongs.{judged_last}

module _ {A : Type 0} (verdict : Name → Verdict) (called : A → Name) (other : Verdict) where
  verdict-some : (o : Option A) (name : Name) → Some name ≡ option_map called o → verdict name ≡ first_or (λ x. verdict (called x)) o other
  verdict-some None name e = absurd (none-some name (sym e))
  verdict-some (Some x) name e = ap verdict (same_Some name (called x) e)

  verdict-none : (o : Option A) → None ≡ option_map called o → other ≡ first_or (λ x. verdict (called x)) o other
  verdict-none None e = refl
  verdict-none (Some x) e = absurd (none-some (called x) e)

-- what is answered, and what it names
some-named : (p : Program) (r : Option ℕ) (unit : ℕ) (target : Option Name) → option_map (unit_name p) r ≡ target → r ≡ Some unit
    → Some (unit_name p unit) ≡ target
some-named p r unit target h e = sym (ap (option_map (unit_name p)) e) ∙ h

none-named : (p : Program) (r : Option ℕ) (target : Option Name) → option_map (unit_name p) r ≡ target → r ≡ None → None ≡ target
none-named p r target h e = sym (ap (option_map (unit_name p)) e) ∙ h

module _ (p : Program) (w : Software) (depth : ℕ) (told : List Event) (other : Verdict) (astray : Option ℕ)
    (first : option_map (unit_name p) astray ≡ option_map (λ t. t.name) (find (λ t. not (follows w depth told t)) w.tasks)) where
  abbrev objects : Verdict
  objects = first_or (λ g. Shared g.name) (find (λ g. not (serves w depth told g)) w.shared) other

  pub thread-wrong : (unit : ℕ) → astray ≡ Some unit → Script (unit_name p unit) ≡ judged_last w depth told other
  thread-wrong unit e =
      verdict-some Script (λ t. t.name) objects (find (λ t. not (follows w depth told t)) w.tasks) (unit_name p unit)
      (some-named p astray unit _ first e)

  threads-right : astray ≡ None → objects ≡ judged_last w depth told other
  threads-right e = verdict-none Script (λ t. t.name) objects (find (λ t. not (follows w depth told t)) w.tasks) (none-named p astray _ first e)

  module _ (broken : Option ℕ)
      (one : option_map (unit_name p) broken ≡ option_map (λ g. g.name) (find (λ g. not (serves w depth told g)) w.shared))
      (right : astray ≡ None) where
    pub object-wrong : (unit : ℕ) → broken ≡ Some unit → Shared (unit_name p unit) ≡ judged_last w depth told other
    object-wrong unit e =
        verdict-some Shared (λ g. g.name) other (find (λ g. not (serves w depth told g)) w.shared) (unit_name p unit)
        (some-named p broken unit _ one e)
        ∙ threads-right right

    pub none-wrong : broken ≡ None → other ≡ judged_last w depth told other
    none-wrong e =
        verdict-none Shared (λ g. g.name) other (find (λ g. not (serves w depth told g)) w.shared) (none-named p broken _ one e) ∙ threads-right right
