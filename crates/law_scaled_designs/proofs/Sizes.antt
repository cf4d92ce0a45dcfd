-- Budgets and sizes of a design whose `work` is changed: nothing is told of them where its flat design is sound.
use Rattle.std.proofs.Common.{◌≡◌, ℕ, suc, ◌+◌, ◌-◌, Bool, true, false, not, ◌&&◌, ◌||◌, List, [], ◌∷◌, ◌++◌, map, filter, flat_map, filter_map, length}
use Rattle.std.proofs.Common.{nat_lt, nat_le, refl, ap, ap₂, ◌∙◌, sym, subst, arith, Option, Some, None, option_map, option_to_list, inl, inr, ◌⊎◌}
use Rattle.std.specs.List.{list_any, cons_option}
use Rattle.std.proofs.lemmas.Bool.{and_parts, or_parts, not-false}
use Rattle.std.proofs.lemmas.List.{length-map}
use Rattle.seq_tree.specs.Limits.{tick_limit}
use Rattle.seq_tree.specs.Names.{Name}
use Rattle.seq_tree.specs.Statements.{Statements}
use Rattle.ods_tree.specs.Attributes.{attribute_or}
use Rattle.ods_tree.specs.Designs.{Body, Object, Design}
use Rattle.ods_tree.specs.Walk.{Standing, objects, terminals, is_terminal, only_if}
use Rattle.ods_tree.specs.Links.{resolved}
use Rattle.ods_tree.specs.Flats.{Flat}
use Rattle.ods_tree.specs.Flattening.{flat}
use Rattle.ods_tree.specs.Services.{flat_services}
use Rattle.ods_tree.specs.Ticks.{stated_priorities}
use Rattle.ods_tree.specs.declared.design.AttrKey.TheVariants.{Period, Offset, Separation, ArrivalJitter, Deadline, ThreadBudget}
use Rattle.ods_tree.specs.declared.design.Kind.{Kind}
use Rattle.ods_tree.specs.declared.design.Kind.TheVariants as kind
use Rattle.analysis.specs.Execution.{block_cost}
use Rattle.analysis.specs.Sound.{IsSound}
use Rattle.design_rules.specs.Broken.{Broken, V14, V15Threads, V15Objects, V15Cost}
use Rattle.design_rules.specs.Budgets.{body_cost, activation_cost, greatest_cost, is_over, over_budget, bad_budgets, dear_body, dear_thread, over_limit}
use Rattle.design_rules.specs.Budgets.{thread_limit, bad_sizes}
use Rattle.design_rules.specs.Lookups.{has_thread}
use Rattle.design_rules.specs.Numbers.{is_required, is_optional, is_foreign, are_common_right, are_attributes_right, are_right, works, breaks_numbers}
use Rattle.design_rules.specs.Rings.{thread_objects}
use Rattle.design_rules.specs.Rules.{AreMet}
use Rattle.law_lists.proofs.Shared.Lists.{IsIn, in-filter, in-made, in-some}
use Rattle.law_designs.proofs.Shared.Lists.{from-map, in-cases, in-none}
use Rattle.law_designs.proofs.Shared.Flattened.{terminal-object}
use Rattle.law_designs.proofs.Shared.ObjectRules.{numbers-right, thread-count, object-count}
use Rattle.law_scaling.specs.Working.{reworked_block, reworked}
use Rattle.law_scaling.specs.Designs.{reworked_body, reworked_object, reworked_design}
use Rattle.law_scaling.proofs.Shared.Designs.{standing, terminals-same, resolved-same, flat-same}
use Rattle.law_scaled_designs.proofs.Numbers.{budget-is}
use Rattle.law_scaled_designs.proofs.Objects.{objects-same}
use Rattle.law_scaled_designs.proofs.Callings.{threads-same}
use Rattle.law_scaled_designs.proofs.BodyCosts.{body-within, thread-within}

-- lists of which nothing is told
none-flat : {A B : Type 0} (f : A → List B) (g : A → A) (xs : List A) → ((a : A) → IsIn a xs → f (g a) ≡ []) → flat_map f (map g xs) ≡ []
none-flat f g [] h = refl
none-flat f g (x ∷ xs) h = ap₂ (λ ys zs. ys ++ zs) (h x (inl refl)) (none-flat f g xs (λ a k. h a (inr k)))

pub none-taken : {A B : Type 0} (f : A → Option B) (g : A → A) (xs : List A) → ((a : A) → IsIn a xs → f (g a) ≡ None) → filter_map f (map g xs) ≡ []
none-taken f g [] h = refl
none-taken f g (x ∷ xs) h = ap₂ cons_option (h x (inl refl)) (none-taken f g xs (λ a k. h a (inr k)))

never-over : (cost : ℕ) → is_over tick_limit cost ≡ false
never-over cost = by (nat_lt tick_limit cost) (nat_le cost tick_limit) refl refl
  where
    by : (a b : Bool) → nat_lt tick_limit cost ≡ a → nat_le cost tick_limit ≡ b → (a && b) ≡ false
    by true true h k = grind (arith, h, k)
    by true false h k = refl
    by false b h k = refl

not-dear : (cost : ℕ) → nat_le cost tick_limit ≡ true → nat_lt greatest_cost cost ≡ false
not-dear cost h = grind (arith, h)

last-of : (a b c d e : Bool) → (a && b && c && d && e) ≡ true → e ≡ true
last-of a b c d e h = (and_parts (a && b && c && d) e h).1

-- an object with a thread whose attributes are right has a budget in its range
budget-there : (k : Kind) (o : Object) → has_thread k ≡ true → are_attributes_right k o ≡ true → is_required 1 tick_limit ThreadBudget o ≡ true
budget-there kind.Cyclic o h r =
    (and_parts (is_required 1 (attribute_or 0 Period o) Deadline o) (is_required 1 tick_limit ThreadBudget o)
    (last-of (is_required 1 tick_limit Period o) (is_optional 0 tick_limit Offset o) (is_foreign Separation o) (is_foreign ArrivalJitter o)
    (are_common_right (attribute_or 0 Period o) o) r)).1
budget-there kind.Sporadic o h r =
    (and_parts (is_required 1 (attribute_or 0 Separation o) Deadline o) (is_required 1 tick_limit ThreadBudget o)
    (last-of (is_required 1 tick_limit Separation o) (is_optional 0 (attribute_or 0 Separation o - 1) ArrivalJitter o) (is_foreign Period o)
    (is_foreign Offset o) (are_common_right (attribute_or 0 Separation o) o) r)).1
budget-there kind.Passive o h r = cc
budget-there kind.Active o h r = cc
budget-there kind.Protected o h r = cc

-- that a body or a thread costs too much
abbrev pub TellsCost : Broken → Type 0
TellsCost told = (object : Name) × (op : Option Name) × (told ≡ V15Cost object op)

told-cost : (object : Name) (op : Option Name) (told : Broken) (b : Bool) → only_if b (V15Cost object op) ≡ Some told → TellsCost told
told-cost object op told true e = (object, op, (let k : Some (V15Cost object op) ≡ Some told = e in cc))
told-cost object op told false e = absurd (let k : None ≡ Some told = e in cc)

module _ (written x : Design) (met : AreMet written x) (w : Name → ℕ → ℕ) where
  abbrev new : Design
  new = reworked_design w x

  -- BUDGETS

  attributes-right : (s : Standing) → IsIn s (terminals x) → are_attributes_right s.own.kind s.own ≡ true
  attributes-right s h =
      let t = terminal-object x s h in
      let a = or_parts (not (are_right (is_terminal s) s.own) || _) _ (numbers-right written x met s t.0) in
      let b = or_parts (not (are_right (is_terminal s) s.own)) _ a.0 in
      let P : Bool → Type 0 = λ b. are_right b s.own ≡ true in
      subst P t.1 (not-false _ b.0)

  has-budget : (o : Object) → IsIn o (thread_objects x) → attribute_or 0 ThreadBudget (reworked_object w o) ≡ tick_limit
  has-budget o h =
      let s = from-map (λ s. s.own) (filter (λ s. has_thread s.own.kind) (terminals x)) o h in
      let t = in-filter (λ s. has_thread s.own.kind) s.0 (terminals x) s.1 in
      let B : Object → Type 0 = λ p. is_required 1 tick_limit ThreadBudget p ≡ true in
      budget-is w o (subst B (sym s.2) (budget-there s.0.own.kind s.0.own t.1 (attributes-right s.0 t.0)))

  within-budget : (o : Object) (b : Option Statements) → IsIn o (thread_objects x)
      → filter_map (over_budget new (reworked_object w o)) (option_to_list (option_map (reworked_block (w o.name)) b)) ≡ []
  within-budget o None h = refl
  within-budget o (Some b) h =
      let cost : ℕ = activation_cost new (reworked_block (w o.name) b) in
      let over : is_over (attribute_or 0 ThreadBudget (reworked_object w o)) cost ≡ false
      = ap (λ n. is_over n cost) (has-budget o h) ∙ never-over cost in
      ap (λ t. cons_option (only_if t (V14 o.name cost (attribute_or 0 ThreadBudget (reworked_object w o)))) []) over

  pub no-bad-budgets : bad_budgets new ≡ []
  no-bad-budgets =
      ap (flat_map (λ o. filter_map (over_budget new o) (option_to_list o.thread))) (threads-same w x)
      ∙ none-flat (λ o. filter_map (over_budget new o) (option_to_list o.thread)) (reworked_object w) (thread_objects x)
      (λ o h. within-budget o o.thread h)

  -- SIZES

  cost-is : (c : ℕ → ℕ) (b : Statements)
      → body_cost new (reworked_block c b) ≡ block_cost x.costs (flat_services (reworked w (flat x))) (reworked_block c (resolved x b))
  cost-is c b =
      ap₂ (λ (g : Flat) t. block_cost x.costs (flat_services g) t) (flat-same w x) (resolved-same w x c b)

  within-limit : (limit count : ℕ) (told : Broken) → nat_lt limit count ≡ false → over_limit limit count told ≡ []
  within-limit limit count told h = ap (λ b. option_to_list (only_if b told)) h

  no-bad-counts : (over_limit (thread_limit (stated_priorities x)) (length (thread_objects new)) (V15Threads (length (thread_objects new))) ≡ [])
      × (over_limit 500 (length (objects new)) (V15Objects (length (objects new))) ≡ [])
  no-bad-counts =
      let threads : length (thread_objects new) ≡ length (thread_objects x)
      = ap length (threads-same w x) ∙ length-map (thread_objects x) (reworked_object w) in
      let all : length (objects new) ≡ length (objects x) = ap length (objects-same w x) ∙ length-map (objects x) (standing w) in (
        within-limit (thread_limit (stated_priorities x)) (length (thread_objects new)) (V15Threads (length (thread_objects new)))
            (ap (nat_lt (thread_limit (stated_priorities x))) threads ∙ thread-count written x met),
        within-limit 500 (length (objects new)) (V15Objects (length (objects new))) (ap (nat_lt 500) all ∙ object-count written x met),
      )

  -- so what is told of its sizes is a body or a thread that is too dear
  abbrev dear_parts : Standing → List Broken
  dear_parts s = filter_map (dear_body new s.own) s.own.bodies ++ filter_map (dear_thread new s.own) (option_to_list s.own.thread)

  pub size-told : (told : Broken) → IsIn told (bad_sizes new) → TellsCost told
  size-told told h =
      let behind = in-cases _ (over_limit 500 (length (objects new)) (V15Objects (length (objects new))) ++ flat_map dear_parts (terminals new)) told h in
      sized (over_limit (thread_limit (stated_priorities x)) (length (thread_objects new)) (V15Threads (length (thread_objects new))))
      (over_limit 500 (length (objects new)) (V15Objects (length (objects new)))) no-bad-counts.0 no-bad-counts.1 behind
    where
      part : (s : Standing) → IsIn told (filter_map (dear_body new s.own) s.own.bodies)
          ⊎ IsIn told (filter_map (dear_thread new s.own) (option_to_list s.own.thread)) → TellsCost told
      part s (inl k) =
          let b = in-made (dear_body new s.own) s.own.bodies told k in
          told-cost s.own.name (Some b.0.name) told (nat_lt greatest_cost (body_cost new b.0.block)) b.2
      part s (inr k) =
          let b = in-made (dear_thread new s.own) (option_to_list s.own.thread) told k in
          told-cost s.own.name None told (nat_lt greatest_cost (activation_cost new b.0)) b.2

      sized : (ts os : List Broken) → ts ≡ [] → os ≡ [] → IsIn told ts ⊎ IsIn told (os ++ flat_map dear_parts (terminals new)) → TellsCost told
      sized ts os e g (inl k) = absurd (in-none ts told e k)
      sized ts os e g (inr k) = later os g (in-cases os (flat_map dear_parts (terminals new)) told k)
        where
          later : (os : List Broken) → os ≡ [] → IsIn told os ⊎ IsIn told (flat_map dear_parts (terminals new)) → TellsCost told
          later os g (inl k) = absurd (in-none os told g k)
          later os g (inr k) =
              let s = in-some dear_parts (terminals new) told k in
              part s.0 (in-cases (filter_map (dear_body new s.0.own) s.0.own.bodies)
              (filter_map (dear_thread new s.0.own) (option_to_list s.0.own.thread)) told s.2)

  -- and where its flat design is sound, nothing is
  module _ (sound : IsSound (reworked w (flat x))) where
    no-dear-body : (s : Standing) (b : Body) → IsIn s (terminals x) → IsIn b s.own.bodies
        → dear_body new (reworked_object w s.own) (reworked_body (w s.own.name) b) ≡ None
    no-dear-body s b h i =
        let cheap : nat_lt greatest_cost (body_cost new (reworked_block (w s.own.name) b.block)) ≡ false
        = ap (nat_lt greatest_cost) (cost-is (w s.own.name) b.block) ∙ not-dear _ (body-within written x met w sound s b h i) in
        ap (λ t. only_if t (V15Cost s.own.name (Some b.name))) cheap

    no-dear-thread : (s : Standing) (b : Option Statements) → IsIn s (terminals x) → s.own.thread ≡ b
        → filter_map (dear_thread new (reworked_object w s.own)) (option_to_list (option_map (reworked_block (w s.own.name)) b)) ≡ []
    no-dear-thread s None h e = refl
    no-dear-thread s (Some b) h e =
        let cheap : nat_lt greatest_cost (activation_cost new (reworked_block (w s.own.name) b)) ≡ false
        = ap (λ n. nat_lt greatest_cost (n + x.costs.finish)) (cost-is (w s.own.name) b)
        ∙ not-dear _ (thread-within written x met w sound s b h e) in
        ap (λ t. cons_option (only_if t (V15Cost s.own.name None)) []) cheap

    pub no-bad-sizes : bad_sizes new ≡ []
    no-bad-sizes =
        ap₂ (λ a b. a ++ b) no-bad-counts.0
        (ap₂ (λ a b. a ++ b) no-bad-counts.1
        (ap (flat_map (λ s. filter_map (dear_body new s.own) s.own.bodies ++ filter_map (dear_thread new s.own) (option_to_list s.own.thread)))
        (terminals-same w x)
        ∙ none-flat (λ s. filter_map (dear_body new s.own) s.own.bodies ++ filter_map (dear_thread new s.own) (option_to_list s.own.thread))
        (standing w) (terminals x)
        (λ s h. ap₂ (λ a b. a ++ b)
        (none-taken (dear_body new (reworked_object w s.own)) (reworked_body (w s.own.name)) s.own.bodies (λ b i. no-dear-body s b h i))
        (no-dear-thread s s.own.thread h refl))))
