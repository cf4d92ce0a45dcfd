-- What the rules say of each object of a design: that nothing is told of it means that it passes each test.
use Rattle.std.proofs.Common.{◌≡◌, ℕ, Bool, true, false, not, ◌&&◌, List, [], ◌∷◌, ◌++◌, map, filter, filter_map, flat_map, length, nat_lt}
use Rattle.std.proofs.Common.{nat_le, Option, Some, None, option_map, option_to_list, refl, sym, ap, subst, ◌∙◌, arith, inl, inr}
use Rattle.std.specs.List.{list_all}
use Rattle.std.proofs.lemmas.Bool.{false_from_ne_true, not-false}
use Rattle.seq_tree.specs.Names.{Name}
use Rattle.seq_tree.specs.Statements.{Statements}
use Rattle.seq_tree.specs.Faults.{block_fault}
use Rattle.seq_tree.specs.declared.tree.OpName.{OpName}
use Rattle.ods_tree.specs.Designs.{Body, Object, Design}
use Rattle.ods_tree.specs.Walk.{Standing, objects, is_terminal, terminals, only_if}
use Rattle.ods_tree.specs.Flattening.{request_op}
use Rattle.ods_tree.specs.Ticks.{stated_priorities}
use Rattle.ods_tree.specs.Sound.{costs_of}
use Rattle.seq_tree.specs.Limits.{is_within}
use Rattle.design_rules.specs.Broken.{Broken, V02, V04, V05, V08, V10, V11, V12, V13, V15Threads, V15Objects, V16}
use Rattle.design_rules.specs.Rules.{Clash, KeptName, Operation, Fitting, Use, Source, Number, IdleActive, Size, Spacing, AreMet, IsListed}
use Rattle.design_rules.specs.Rules as rules
use Rattle.design_rules.specs.Clashes.{clashes}
use Rattle.design_rules.specs.Words.{kept_names, object_names}
use Rattle.design_rules.specs.Operations.{breaks_operations}
use Rattle.design_rules.specs.Fittings.{misfits}
use Rattle.design_rules.specs.Uses.{is_forbidden, needs_that}
use Rattle.design_rules.specs.Lookups.{operation_named, provided_named, is_sporadic}
use Rattle.design_rules.specs.Sources.{breaks_sources, source_count, start_count}
use Rattle.design_rules.specs.Numbers.{breaks_numbers, bad_costs}
use Rattle.design_rules.specs.Bodies.{is_active, scope, params_by, request_params, body_fault, thread_fault}
use Rattle.design_rules.specs.Budgets.{body_cost, activation_cost, greatest_cost, dear_body, dear_thread, over_limit, thread_limit}
use Rattle.design_rules.specs.Rings.{thread_objects, can_start}
use Rattle.design_rules.specs.Separations.{spacing, is_too_often}
use Rattle.ods_tree.specs.Attributes.{attribute_or}
use Rattle.ods_tree.specs.declared.design.AttrKey.TheVariants.{Separation}
use Rattle.ada_tree.specs.Words.{is_ada_name}
use Rattle.law_designs.proofs.Shared.Lists.{in-filter_map, in-none, none-told}
use Rattle.law_designs.proofs.Shared.Resolving.{Fit}
use Rattle.law_lists.proofs.Shared.Lists.{in-map, in-flat, filter-in, IsIn}

-- a list with nothing at any place is empty
pub none_listed : (all : List Broken) → ((place : ℕ) (told : Broken) → IsListed all place told → ⊥) → all ≡ []
none_listed [] none = refl
none_listed (b ∷ bs) none = absurd (none 0 b refl)

no_cons : {A : Type 0} (a : A) (as' : List A) → a ∷ as' ≡ [] → ⊥
no_cons a as' e = cc

pub nothing_first : {A : Type 0} (xs ys : List A) → xs ++ ys ≡ [] → (xs ≡ []) × (ys ≡ [])
nothing_first [] ys e = (refl, e)
nothing_first (x ∷ xs) ys e = absurd (no_cons x (xs ++ ys) e)

-- parts of lists that are empty
pub flat-nothing : {A B : Type 0} (f : A → List B) (xs : List A) (a : A) → flat_map f xs ≡ [] → IsIn a xs → f a ≡ []
flat-nothing f [] a e h = absurd h
flat-nothing f (x ∷ xs) a e (inl s) = ap f (sym s) ∙ (nothing_first (f x) (flat_map f xs) e).0
flat-nothing f (x ∷ xs) a e (inr h) = flat-nothing f xs a (nothing_first (f x) (flat_map f xs) e).1 h

is-none : {A : Type 0} (o : Option A) → ((a : A) → o ≡ Some a → ⊥) → o ≡ None
is-none None h = refl
is-none (Some a) h = absurd (h a refl)

pub taken-nothing : {A B : Type 0} (f : A → Option B) (xs : List A) (a : A) → filter_map f xs ≡ [] → IsIn a xs → f a ≡ None
taken-nothing f xs a e h = is-none (f a) (λ b k. in-none (filter_map f xs) b e (in-filter_map f xs a b h k))

only-false : {A : Type 0} (b : Bool) (a : A) → only_if b a ≡ None → b ≡ false
only-false true a e = cc
only-false false a e = refl

map-nothing : {A B : Type 0} (f : A → B) (o : Option A) → option_map f o ≡ None → o ≡ None
map-nothing f None e = refl
map-nothing f (Some a) e = absurd (let z : Some (f a) ≡ None = e in cc)

module _ (written x : Design) (met : AreMet written x) where
  pub no-clash : clashes x ≡ []
  no-clash = none_listed (clashes x) (met Clash)

  pub no-kept : kept_names x ≡ []
  no-kept = none_listed (kept_names x) (met KeptName)

  pub names-stand : (n : Name) → IsIn n (x.name ∷ flat_map (λ s. object_names s.own) (objects x)) → is_ada_name n ≡ true
  names-stand n h = by (is_ada_name n) refl
    where
      by : (b : Bool) → is_ada_name n ≡ b → is_ada_name n ≡ true
      by true e = e
      by false e =
          absurd (in-none (kept_names x) (V02 n) no-kept
          (in-map V02 n _ (filter-in (λ m. not (is_ada_name m)) n (x.name ∷ flat_map (λ s. object_names s.own) (objects x)) h (ap not e))))

  pub own-names-stand : (s : Standing) (n : Name) → IsIn s (objects x) → IsIn n (object_names s.own) → is_ada_name n ≡ true
  own-names-stand s n h k = names-stand n (inr (in-flat (λ t. object_names t.own) s n (objects x) h k))

  pub operations-right : (s : Standing) → IsIn s (objects x) → breaks_operations s ≡ false
  operations-right = none-told breaks_operations (λ s. V04 s.own.name) (objects x) (none_listed _ (met Operation))

  pub parts-fit : Fit (objects x)
  parts-fit = none-told (λ s. misfits (is_terminal s) s) (λ s. V05 s.own.name) (objects x) (none_listed _ (met Fitting))

  needs-pass : (told : Name → OpName → Broken) (test : Standing → OpName → Bool) → needs_that told test x ≡ [] → (s : Standing) (n : OpName)
      → IsIn s (objects x) → IsIn n s.own.needs → test s n ≡ false
  needs-pass told test e s n h k = false_from_ne_true (test s n) (λ t.
      let none : map (told s.own.name) (filter (test s) s.own.needs) ≡ []
      = flat-nothing (λ z. map (told z.own.name) (filter (test z) z.own.needs)) (objects x) s e h in
      in-none _ (told s.own.name n) none (in-map (told s.own.name) n _ (filter-in (test s) n s.own.needs k t)))

  pub needs-allowed : (s : Standing) (n : OpName) → IsIn s (objects x) → IsIn n s.own.needs → is_forbidden s.own.kind (operation_named x n) ≡ false
  needs-allowed = needs-pass V08 (λ t m. is_forbidden t.own.kind (operation_named x m)) (none_listed _ (met Use))

  pub costs-right : list_all (is_within 1 1000) (costs_of x.costs) ≡ true
  costs-right =
      let none : filter_map (λ fine. only_if (not fine) (V11 None)) (list_all (is_within 1 1000) (costs_of x.costs) ∷ []) ≡ []
      = (nothing_first (bad_costs x) _ (none_listed _ (met Number))).0 in
      not-false _ (none-told not (λ b. V11 None) (list_all (is_within 1 1000) (costs_of x.costs) ∷ []) none
      (list_all (is_within 1 1000) (costs_of x.costs)) (inl refl))

  pub numbers-right : (s : Standing) → IsIn s (objects x) → breaks_numbers s ≡ false
  numbers-right = none-told breaks_numbers (λ s. V11 (Some s.own.name)) (objects x) (nothing_first (bad_costs x) _ (none_listed _ (met Number))).1

  pub not-active : (s : Standing) → IsIn s (terminals x) → is_active s.own.kind ≡ false
  not-active = none-told (λ s. is_active s.own.kind) (λ s. V12 s.own.name) (terminals x) (none_listed _ (met IdleActive))

  bodies-nothing : (s : Standing) → IsIn s (objects x) → (filter_map (body_fault x s.own) s.own.bodies ≡ [])
      × (filter_map (thread_fault x s.own) (option_to_list s.own.thread) ≡ [])
  bodies-nothing s h =
      nothing_first _ _ (flat-nothing (λ t. filter_map (body_fault x t.own) t.own.bodies
      ++ filter_map (thread_fault x t.own) (option_to_list t.own.thread)) (objects x) s (none_listed _ (met rules.BodyFault)) h)

  pub body-right : (s : Standing) (b : Body) → IsIn s (objects x) → IsIn b s.own.bodies
      → block_fault (scope x s.own (params_by (provided_named b.name s.own.provides)) b.locals) b.block ≡ None
  body-right s b h k = map-nothing (V13 s.own.name (Some b.name)) _ (taken-nothing (body_fault x s.own) s.own.bodies b (bodies-nothing s h).0 k)

  pub thread-right : (s : Standing) (b : Statements) → IsIn s (objects x) → s.own.thread ≡ Some b
      → block_fault (scope x s.own (request_params s.own.kind (request_op s.own.provides)) []) b ≡ None
  thread-right s b h e =
      let P : Option Statements → Type 0 = λ o. IsIn b (option_to_list o) in
      map-nothing (V13 s.own.name None) _ (taken-nothing (thread_fault x s.own) (option_to_list s.own.thread) b (bodies-nothing s h).1
      (subst P (sym e) (inl refl)))

  sizes : (over_limit (thread_limit (stated_priorities x)) (length (thread_objects x)) (V15Threads (length (thread_objects x))) ≡ [])
      × (over_limit 500 (length (objects x)) (V15Objects (length (objects x))) ≡ [])
      × (flat_map (λ s. filter_map (dear_body x s.own) s.own.bodies ++ filter_map (dear_thread x s.own) (option_to_list s.own.thread))
      (terminals x) ≡ [])
  sizes = let a = nothing_first _ _ (none_listed _ (met Size)) in let b = nothing_first _ _ a.1 in (a.0, b.0, b.1)

  within-limit : (limit count : ℕ) (told : Broken) → over_limit limit count told ≡ [] → nat_lt limit count ≡ false
  within-limit limit count told e = by (nat_lt limit count) e
    where
      by : (b : Bool) → option_to_list (only_if b told) ≡ [] → b ≡ false
      by true k = absurd (no_cons told [] k)
      by false k = refl

  pub thread-count : nat_lt (thread_limit (stated_priorities x)) (length (thread_objects x)) ≡ false
  thread-count = within-limit _ _ _ sizes.0

  pub object-count : nat_lt 500 (length (objects x)) ≡ false
  object-count = within-limit _ _ _ sizes.1

  dear-nothing : (s : Standing) → IsIn s (terminals x) → (filter_map (dear_body x s.own) s.own.bodies ≡ [])
      × (filter_map (dear_thread x s.own) (option_to_list s.own.thread) ≡ [])
  dear-nothing s h = nothing_first _ _ (flat-nothing (λ t. filter_map (dear_body x t.own) t.own.bodies
      ++ filter_map (dear_thread x t.own) (option_to_list t.own.thread)) (terminals x) s sizes.2 h)

  not-over : (limit n : ℕ) → nat_lt limit n ≡ false → nat_le n limit ≡ true
  not-over limit n h = grind arith

  pub body-cheap : (s : Standing) (b : Body) → IsIn s (terminals x) → IsIn b s.own.bodies → nat_le (body_cost x b.block) greatest_cost ≡ true
  body-cheap s b h k = not-over _ _ (only-false _ _ (taken-nothing (dear_body x s.own) s.own.bodies b (dear-nothing s h).0 k))

  pub thread-cheap : (s : Standing) (b : Statements) → IsIn s (terminals x) → s.own.thread ≡ Some b
      → nat_le (activation_cost x b) greatest_cost ≡ true
  thread-cheap s b h e =
      let P : Option Statements → Type 0 = λ o. IsIn b (option_to_list o) in
      not-over _ _ (only-false _ _ (taken-nothing (dear_thread x s.own) (option_to_list s.own.thread) b (dear-nothing s h).1
      (subst P (sym e) (inl refl))))

  and-false : (a b : Bool) → (a && b) ≡ false → a ≡ true → b ≡ false
  and-false true b h e = h
  and-false false b h e = cc

  pub sources-right : (o : Object) → IsIn o (thread_objects x) → is_sporadic o.kind ≡ true → breaks_sources x o ≡ false
  sources-right o h e =
      and-false _ _ (none-told (λ t. is_sporadic t.kind && breaks_sources x t) (λ t. V10 t.name (source_count x t) (start_count x t))
      (thread_objects x) (none_listed _ (met Source)) o h) e

  pub separations-right : (f t : Object) → IsIn f (thread_objects x) → IsIn t (thread_objects x) → can_start x f t ≡ true
      → nat_lt (spacing f) (attribute_or 0 Separation t) ≡ false
  separations-right f t h k starts =
      let none : filter_map (λ o. only_if (is_too_often x f o) (V16 f.name (spacing f) o.name (attribute_or 0 Separation o)))
      (thread_objects x) ≡ [] =
      flat-nothing (λ o. filter_map (λ p. only_if (is_too_often x o p) (V16 o.name (spacing o) p.name (attribute_or 0 Separation p)))
      (thread_objects x)) (thread_objects x) f (none_listed _ (met Spacing)) h in
      and-false _ _ (none-told (is_too_often x f) (λ o. V16 f.name (spacing f) o.name (attribute_or 0 Separation o))
      (thread_objects x) none t k) starts
