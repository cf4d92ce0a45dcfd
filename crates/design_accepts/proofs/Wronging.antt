-- What is wrong by the place of a unit is so by its name.
use Rattle.std.proofs.Common.{◌≡◌, ℕ, List, Option, Some, None, refl, sym, ap, ◌∙◌}
use Rattle.std.specs.Prelude.{find, not, option_map}
use Rattle.seq_tree.specs.Names.{Name}
use Rattle.ods_tree.specs.Flats.{Guarded}
use Rattle.ada_tree.specs.Programs.{Program}
use Rattle.trace_tree.specs.Lines.{unit_name}
use Rattle.guarantee.specs.Events.{Event}
use Rattle.guarantee.specs.Software.{Task, Software}
use Rattle.law_traces.specs.Checks.{follows, serves}
use Rattle.law_traces.specs.Verdicts.{Verdict, Times, Script, Shared, first_or}
use Rattle.design_accepts.specs.Units.{astray, unserved}
use Rattle.trace_scripts.specs.Wrongs.{judged_last, verdict_by}
use Rattle.trace_scripts.specs.declared.verdict.Wrong.{Wrong}
use Rattle.trace_scripts.specs.declared.verdict.Wrong.TheVariants.{Thread, Object}

abbrev last : Option Task → Option Guarded → Verdict
last a b = first_or (λ t. Script t.name) a (first_or (λ g. Shared g.name) b Times)

script-last : (a : Option Task) (b : Option Guarded) (n : Name) → Script n ≡ last a b → option_map (λ t. t.name) a ≡ Some n
script-last (Some t) b n e = same e
  where
    same : Script n ≡ Script t.name → Some t.name ≡ Some n
    same k = cc
script-last None (Some g) n e = absurd (never e)
  where
    never : Script n ≡ Shared g.name → ⊥
    never k = cc
script-last None None n e = absurd (never e)
  where
    never : Script n ≡ Times → ⊥
    never k = cc

shared-last : (a : Option Task) (b : Option Guarded) (n : Name) → Shared n ≡ last a b
    → (option_map (λ t. t.name) a ≡ None) × (option_map (λ g. g.name) b ≡ Some n)
shared-last (Some t) b n e = absurd (never e)
  where
    never : Shared n ≡ Script t.name → ⊥
    never k = cc
shared-last None (Some g) n e = (refl, same e)
  where
    same : Shared n ≡ Shared g.name → Some g.name ≡ Some n
    same k = cc
shared-last None None n e = absurd (never e)
  where
    never : Shared n ≡ Times → ⊥
    never k = cc

none-last : (a : Option Task) (b : Option Guarded) → Times ≡ last a b
    → (option_map (λ t. t.name) a ≡ None) × (option_map (λ g. g.name) b ≡ None)
none-last (Some t) b e = absurd (never e)
  where
    never : Times ≡ Script t.name → ⊥
    never k = cc
none-last None (Some g) e = absurd (never e)
  where
    never : Times ≡ Shared g.name → ⊥
    never k = cc
none-last None None e = (refl, refl)

module _ (w : Software) (depth : ℕ) (told : List Event) where
  abbrev a : Option Task
  a = find (λ t. not (follows w depth told t)) w.tasks

  abbrev b : Option Guarded
  b = find (λ g. not (serves w depth told g)) w.shared

  pub thread-wrong : (m n : Name) → n ≡ m → Script m ≡ judged_last w depth told Times → astray w depth told ≡ Some n
  thread-wrong m n is e = script-last a b n (ap Script is ∙ e)

  pub object-wrong : (m n : Name) → n ≡ m → Shared m ≡ judged_last w depth told Times
      → (astray w depth told ≡ None) × (unserved w depth told ≡ Some n)
  object-wrong m n is e = shared-last a b n (ap Shared is ∙ e)

  pub none-wrong : Times ≡ judged_last w depth told Times → (astray w depth told ≡ None) × (unserved w depth told ≡ None)
  none-wrong e = none-last a b e

  pub thread-told : (p : Program) (f : Option Wrong) (place : ℕ) (n : Name) → verdict_by p f Times ≡ judged_last w depth told Times
      → f ≡ Some (Thread place) → n ≡ unit_name p place → astray w depth told ≡ Some n
  thread-told p f place n e is named = thread-wrong (unit_name p place) n named (sym (ap (λ z. verdict_by p z Times) is) ∙ e)

  pub object-told : (p : Program) (f : Option Wrong) (place : ℕ) (n : Name) → verdict_by p f Times ≡ judged_last w depth told Times
      → f ≡ Some (Object place) → n ≡ unit_name p place → (astray w depth told ≡ None) × (unserved w depth told ≡ Some n)
  object-told p f place n e is named = object-wrong (unit_name p place) n named (sym (ap (λ z. verdict_by p z Times) is) ∙ e)

  pub none-told : (p : Program) (f : Option Wrong) → verdict_by p f Times ≡ judged_last w depth told Times → f ≡ None
      → (astray w depth told ≡ None) × (unserved w depth told ≡ None)
  none-told p f e is = none-wrong (sym (ap (λ z. verdict_by p z Times) is) ∙ e)
