-- The times and nominal times of the arrivals for a task, as one more arrival comes.
use Rattle.std.specs.Prelude.{◌≡◌, ◌≢◌, ℕ, ◌==◌, Bool, true, false, List, [], ◌∷◌, ◌++◌, map, filter, Option, Some, if◌then◌else◌, refl}
use Rattle.std.proofs.Common.{◌∙◌, ap, append-nil}
use Rattle.std.proofs.lemmas.Bool.{eq-eqb, ne_eqb}
use Rattle.std.proofs.lemmas.List.{map-append}
use Rattle.std.proofs.lemmas.List.Elements.{filter-append}
use Rattle.arrivals_tree.specs.declared.arrivals.Arrival.{Arrival}
use Rattle.arrivals_tree.specs.Acceptance.{next_nominal, nominal, earlier_times}

pub nominal-behind : (separation : ℕ) (last : Option ℕ) (ts : List ℕ) (t : ℕ)
    → nominal separation last (ts ++ t ∷ []) ≡ Some (next_nominal separation (nominal separation last ts) t)
nominal-behind separation last [] t = refl
nominal-behind separation last (u ∷ ts) t = nominal-behind separation (Some (next_nominal separation last u)) ts t

pub earlier-behind : (task : ℕ) (before : List Arrival) (a : Arrival) → earlier_times task (before ++ a ∷ [])
    ≡ earlier_times task before ++ (if a.task == task then a.time ∷ [] else [])
earlier-behind task before a =
    ap (map (λ x. x.time)) (filter-append (λ x. x.task == task) before (a ∷ [])) ∙ map-append (λ x. x.time) (filter (λ x. x.task == task) before)
    (filter (λ x. x.task == task) (a ∷ []))
    ∙ ap (λ ts. earlier_times task before ++ ts) (by (a.task == task))
  where
    by : (b : Bool) → map (λ x. x.time) (if b then a ∷ [] else []) ≡ (if b then a.time ∷ [] else [])
    by true = refl
    by false = refl

pub earlier-here : (task : ℕ) (before : List Arrival) (a : Arrival) → a.task ≡ task
    → earlier_times task (before ++ a ∷ []) ≡ earlier_times task before ++ a.time ∷ []
earlier-here task before a same = earlier-behind task before a ∙ ap (λ b. earlier_times task before ++ (if b then a.time ∷ [] else []))
    (eq-eqb a.task task same)

pub earlier-else : (task : ℕ) (before : List Arrival) (a : Arrival) → a.task ≢ task
    → earlier_times task (before ++ a ∷ []) ≡ earlier_times task before
earlier-else task before a differ =
    earlier-behind task before a ∙ ap (λ b. earlier_times task before ++ (if b then a.time ∷ [] else [])) (ne_eqb a.task task differ) ∙ append-nil
    (earlier_times task before)
