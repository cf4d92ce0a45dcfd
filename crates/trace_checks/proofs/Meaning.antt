-- What the checks say of a trace is what the machine says of it.
use Rattle.std.proofs.Common.{◌≡◌, ℕ, Bool, true, false, not, List, [], ◌∷◌, ap, Option, Some, None, refl, sym, subst, ◌∙◌}
use Rattle.std.specs.Prelude.{Result, Ok, Err, cond, find}
use Rattle.std.specs.Bool.{Decides}
use Rattle.seq_tree.specs.Lists.{Each}
use Rattle.seq_tree.specs.Names.{Name}
use Rattle.ada_tree.specs.Programs.{Program}
use Rattle.guarantee.specs.Allowed.{IsPeriodic, IsRequested}
use Rattle.guarantee.specs.Arrivals as given
use Rattle.guarantee.specs.Events.{Event}
use Rattle.guarantee.specs.Order.{IsInOrder}
use Rattle.guarantee.specs.Requests.{AreTold}
use Rattle.guarantee.specs.Software.{Task, Software, program_software}
use Rattle.law_traces.specs.Checks.{in_order, is_periodic, are_told, is_requested}
use Rattle.law_traces.specs.Verdicts.{Verdict, IsFirstWithout, IsVerdict, IsVerdictOn}
use Rattle.law_traces.specs.Verdicts as verdict
use Rattle.law_traces.proofs.Shared.Simple.{times, cyclic, arrivals, requests}
use Rattle.trace_checks.specs.Answers as answer
use Rattle.trace_checks.specs.Answers.{Says, late, unserved}
use Rattle.trace_checks.specs.Meanings.{Means}
use Rattle.trace_checks.specs.declared.broken.Broken.{Broken}
use Rattle.trace_checks.specs.declared.broken.Broken.TheVariants as broken

-- the first for which a test fails, or that it holds of all
abbrev FirstIs : (Task → Type 0) → List Task → Option Name → Type 0
FirstIs P ts None = Each P ts
FirstIs P ts (Some name) = (t : Task) × IsFirstWithout P ts t × (name ≡ t.name)

first-more : (P : Task → Type 0) (t : Task) (ts : List Task) (o : Option Name) → P t → FirstIs P ts o → FirstIs P (t ∷ ts) o
first-more P t ts None h f = (h, f)
first-more P t ts (Some name) h f =
    (f.0, record { front = t ∷ f.1.front; back = f.1.back; split = ap (λ zs. t ∷ zs) f.1.split; before = (h, f.1.before); broken = f.1.broken }, f.2)

first-is : (test : Task → Bool) (P : Task → Type 0) → ((t : Task) → Decides (test t) (P t)) → (ts : List Task)
    → FirstIs P ts (answer.named (find (λ t. not (test t)) ts))
first-is test P tells [] = tt
first-is test P tells (t ∷ ts) = by (test t) (tells t) (first-is test P tells ts)
  where
    by : (b : Bool) → Decides b (P t) → FirstIs P ts (answer.named (find (λ u. not (test u)) ts))
        → FirstIs P (t ∷ ts) (answer.named (cond (not b) (Some t) (find (λ u. not (test u)) ts)))
    by true d more = first-more P t ts (answer.named (find (λ u. not (test u)) ts)) (d.0 refl) more
    by false d more = (t, record { front = []; back = ts; split = refl; before = tt; broken = λ h. never (d.1 h) }, refl)
      where
        never : false ≡ true → ⊥
        never e = cc

no : (b : Bool) (P : Type 0) → Decides b P → b ≡ false → P → ⊥
no b P d e h = never (sym e ∙ d.1 h)
  where
    never : false ≡ true → ⊥
    never z = cc

module _ (p : Program) (r : given.Arrivals) where
  abbrev w : Software
  w = program_software p

  module _ (told : List Event) where
    late-is : (o : Option Name) → answer.named (late w r told) ≡ o → FirstIs (λ t. IsPeriodic r.until told t.name t.timing) w.tasks o
    late-is o e =
        subst (FirstIs (λ t. IsPeriodic r.until told t.name t.timing) w.tasks) e
        (first-is (λ t. is_periodic r.until told t.name t.timing) (λ t. IsPeriodic r.until told t.name t.timing)
        (λ t. cyclic r.until told t.name t.timing) w.tasks)

    unserved-is : (o : Option Name) → answer.named (unserved w told) ≡ o → FirstIs (λ t. IsRequested told t.name t.timing) w.tasks o
    unserved-is o e =
        subst (FirstIs (λ t. IsRequested told t.name t.timing) w.tasks) e
        (first-is (λ t. is_requested told t.name t.timing) (λ t. IsRequested told t.name t.timing) (λ t. requests told t.name t.timing) w.tasks)

    in-time : in_order w.tasks r.until 0 told ≡ true → IsInOrder w.tasks r.until 0 told
    in-time e = (times w.tasks r.until 0 told).0 e

    come : are_told r.until r.items told ≡ true → AreTold r.until r.items told
    come e = (arrivals r.until r.items told).0 e

  pub answers-mean : (text : List ℕ) (a : Result ℕ Broken) → Says p r text a → Means p r text a
  answers-mean text (Ok n) (told, tells, h) = (
    told,
    tells,
    h.0,
    record { times = in-time told h.1; cyclic = late-is told None h.2; arrivals = come told h.3; requests = unserved-is told None h.4 },
  )
  answers-mean text (Err (broken.Line line)) h = h
  answers-mean text (Err broken.Times) (told, tells, h) =
      (tells.0, tells.1, tells.2, subst (λ z. IsVerdictOn w r z verdict.Times) tells.3 (no _ _ (times w.tasks r.until 0 told) h))
  answers-mean text (Err (broken.Cyclic thread)) (told, tells, h) =
      let f = late-is told (Some thread) h.1 in
      (tells.0, tells.1, tells.2, subst (λ z. IsVerdictOn w r z (verdict.Cyclic thread)) tells.3 (in-time told h.0, f.0, f.1, f.2))
  answers-mean text (Err broken.Arrivals) (told, tells, h) = (
    tells.0,
    tells.1,
    tells.2,
    subst (λ z. IsVerdictOn w r z verdict.Untold) tells.3 (in-time told h.0, late-is told None h.1, no _ _ (arrivals r.until r.items told) h.2),
  )
  answers-mean text (Err (broken.Requests thread)) (told, tells, h) =
      let f = unserved-is told (Some thread) h.3 in (
        tells.0,
        tells.1,
        tells.2,
        subst (λ z. IsVerdictOn w r z (verdict.Requests thread)) tells.3
            (in-time told h.0, late-is told None h.1, come told h.2, f.0, f.1, f.2),
      )
  answers-mean text (Err broken.NoMemory) h = tt
