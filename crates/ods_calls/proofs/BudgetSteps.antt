-- Costs that are cut against budgets and limits, and the threads over their budgets object by object.
use Rattle.std.proofs.Common.{◌≡◌, ℕ, ◌+◌, ◌≤◌, Bool, true, false, List, [], ◌∷◌, ◌++◌, Some, None, map, filter, flat_map, arith}
use Rattle.std.proofs.Common.{refl, ap, sym, ◌∙◌, ◌⊎◌, inl, inr}
use Rattle.std.specs.Prelude.{min, nat_le, nat_lt, filter_map, option_to_list}
use Rattle.std.proofs.Math.Nat.{min-eq_left, min-eq_right}
use Rattle.std.proofs.lemmas.Bool.{and_right}
use Rattle.ods_tree.specs.Designs.{Design}
use Rattle.ods_tree.specs.Walk.{Standing, is_terminal, only_if}
use Rattle.design_rules.specs.Broken.{Broken}
use Rattle.design_rules.specs.Budgets.{greatest_cost, is_over, over_budget}
use Rattle.design_rules.specs.Lookups.{has_thread}
use Rattle.call_graph.specs.Prices.{cap}
use Rattle.ods_calls.specs.Costed.{over_budgets}

either : (body : ℕ) → (body ≤ 1000000000) ⊎ (1000000001 ≤ body)
either body = grind arith

too-great : (cost : ℕ) → 1000000001 ≤ cost → nat_le cost greatest_cost ≡ false
too-great cost h = by (nat_le cost greatest_cost) refl
  where
    by : (b : Bool) → nat_le cost greatest_cost ≡ b → b ≡ false
    by true e = (let few : cost ≤ 1000000000 = grind (arith, e) in absurd (omega (arith, few, h)))
    by false e = refl

never-over : (budget cost : ℕ) → 1000000001 ≤ cost → is_over budget cost ≡ false
never-over budget cost h = and_right (nat_lt budget cost) (nat_le cost greatest_cost) (too-great cost h)

-- a cut cost that isn't over its budget
pub over-none : (told : ℕ → Broken) (budget body finish : ℕ) → is_over budget (min cap body + finish) ≡ false
    → only_if (is_over budget (body + finish)) (told (body + finish)) ≡ None
over-none told budget body finish h = by (either body)
  where
    by : (body ≤ 1000000000) ⊎ (1000000001 ≤ body) → only_if (is_over budget (body + finish)) (told (body + finish)) ≡ None
    by (inl k) = let same : min cap body
        ≡ body = min-eq_right (grind (arith, k)) in ap (λ b. only_if b (told (body + finish))) (sym (ap (λ n. is_over budget (n + finish)) same) ∙ h)
    by (inr k) = ap (λ b. only_if b (told (body + finish))) (never-over budget (body + finish) (grind (arith, k)))

yes-no : true ≡ false → ⊥
yes-no e = cc

-- one that is
pub over-some : (told : ℕ → Broken) (budget body finish : ℕ) → is_over budget (min cap body + finish) ≡ true
    → only_if (is_over budget (body + finish)) (told (body + finish)) ≡ Some (told (min cap body + finish))
over-some told budget body finish h = by (either body)
  where
    by : (body ≤ 1000000000) ⊎ (1000000001 ≤ body) → only_if (is_over budget (body + finish)) (told (body + finish))
        ≡ Some (told (min cap body + finish))
    by (inl k) =
        let same : min cap body ≡ body = min-eq_right (grind (arith, k)) in
        ap (λ b. only_if b (told (body + finish))) (sym (ap (λ n. is_over budget (n + finish)) same) ∙ h)
        ∙ ap (λ n. Some (told (n + finish))) (sym same)
    by (inr k) =
        absurd (yes-no (sym h ∙ never-over budget (min cap body + finish) (let whole : min cap body ≡ cap = min-eq_left k in grind (arith, whole))))

-- the threads over their budgets go object by object
pub budgets-split : (x : Design) (ss : List Standing)
    → flat_map (λ o. filter_map (over_budget x o) (option_to_list o.thread))
    (map (λ s. s.own) (filter (λ s. has_thread s.own.kind) (filter is_terminal ss))) ≡ flat_map (over_budgets x) ss
budgets-split x [] = refl
budgets-split x (s ∷ ss) = by (is_terminal s) (has_thread s.own.kind) refl refl (budgets-split x ss)
  where
    by : (t h : Bool) → is_terminal s ≡ t → has_thread s.own.kind ≡ h
        → flat_map (λ o. filter_map (over_budget x o) (option_to_list o.thread))
        (map (λ s. s.own) (filter (λ s. has_thread s.own.kind) (filter is_terminal ss))) ≡ flat_map (over_budgets x) ss
        → flat_map (λ o. filter_map (over_budget x o) (option_to_list o.thread))
        (map (λ s. s.own) (filter (λ s. has_thread s.own.kind) (filter is_terminal (s ∷ ss)))) ≡ flat_map (over_budgets x) (s ∷ ss)
    by false h t e k = rw t k
    by true false t e k = rw (t, e) k
    by true true t e k = rw (t, e) (ap (λ l. filter_map (over_budget x s.own) (option_to_list s.own.thread) ++ l) k)
