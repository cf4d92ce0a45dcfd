-- What is known in a body, step by step, and what is told of its fault.
use Rattle.std.proofs.Common.{◌≡◌, ℕ, ◌+◌, ◌<◌, List, ◌∷◌, ◌++◌, length, drop, map, filter_map, flat_map, Option, Some}
use Rattle.std.proofs.Common.{None, option_map, option_and_then, option_to_list, Err, refl, ap, sym, subst, ◌∙◌, append_assoc}
use Rattle.std.proofs.Math.ListN.{get_or}
use Rattle.std.specs.List.{cons_option}
use Rattle.seq_tree.specs.Names.{Name}
use Rattle.seq_tree.specs.Operations.{Offer}
use Rattle.seq_tree.specs.declared.tree.Param.{Param}
use Rattle.seq_tree.specs.declared.tree.Datum.{Datum}
use Rattle.seq_tree.proofs.Shared.LoopSteps.{drop_step}
use Rattle.ods_tree.specs.Designs.{Body, Object, Design}
use Rattle.ods_tree.specs.Walk.{Standing}
use Rattle.design_rules.specs.Bodies.{body_fault, offers, params_by}
use Rattle.design_rules.specs.Lookups.{provided_named}
use Rattle.ods_forms.specs.BodyScopes.{part_fault}
use Rattle.seq_check.specs.Scopes.{scope_with}
use Rattle.design_rules.specs.Broken.{Broken}
use Rattle.ods_index.specs.Judging.{Tells, head_of}
use Rattle.ods_index.specs.declared.broken.Broken as code
use Rattle.ods_index.proofs.Shared.TellSteps.{tells_front}

-- what is given for one item more
cons_given : {B : Type 0} (o : Option B) (ys : List B) → cons_option o ys ≡ option_to_list o ++ ys
cons_given None ys = refl
cons_given (Some b) ys = refl

pub given_cons : {A B : Type 0} (f : A → Option B) (x : A) (xs : List A) → filter_map f (x ∷ xs) ≡ option_to_list (f x) ++ filter_map f xs
given_cons f x xs = cons_given (f x) (filter_map f xs)

-- what is given for an item is added, and what is left is that of the items behind it
pub given_added : {A B : Type 0} (f : A → Option B) (xs : List A) (i : ℕ) (x : A) (before new all : List B) → i < length xs → x ≡ get_or xs i x →
    new ≡ before ++ option_to_list (f x) → before ++ filter_map f (drop i xs) ≡ all → new ++ filter_map f (drop (i + 1) xs) ≡ all
given_added f xs i x before new all inside at made was =
    let rest = drop (i + 1) xs in
    ap (λ ys. ys ++ filter_map f rest) made ∙ append_assoc before (option_to_list (f x)) (filter_map f rest) ∙ ap (λ ys. before ++ ys)
    (sym (given_cons f x rest))
    ∙ ap (λ ys. before ++ filter_map f ys) (sym (drop_step xs i x inside at)) ∙ was

-- the first that is given, where there is one
pub head_given : {A : Type 0} (o : Option A) → head_of (option_to_list o) ≡ o
head_given None = refl
head_given (Some a) = refl

-- what is told of one item is told of those from it on, in all of which it is the same
pub given_told : {A X : Type 0} (f : A → Option Broken) (v : X → A) (xs : List X) (i : ℕ) (x : X) (all wanted : Option Broken) (e : code.Broken)
    → i < length xs → x ≡ get_or xs i x →
    head_of (filter_map f (map v (drop i xs))) ≡ all → f (v x) ≡ wanted → Tells (Err e) wanted → Tells (Err e) all
given_told f v xs i x all wanted e inside at before here h =
    let rest = map v (drop (i + 1) xs) in
    let Told : Option Broken → Type 0 = λ w. Tells (Err e) w in
    subst Told (ap head_of (sym (given_cons f (v x) rest) ∙ ap (λ ys. filter_map f (map v ys)) (sym (drop_step xs i x inside at))) ∙ before)
    (tells_front e (option_to_list (f (v x))) (filter_map f rest) (subst Told (sym (head_given (f (v x)) ∙ here)) h))

pub listed_told : {A X : Type 0} (f : A → List Broken) (v : X → A) (xs : List X) (i : ℕ) (x : X) (all : Option Broken) (e : code.Broken)
    → i < length xs → x ≡ get_or xs i x →
    head_of (flat_map f (map v (drop i xs))) ≡ all → Tells (Err e) (head_of (f (v x))) → Tells (Err e) all
listed_told f v xs i x all e inside at before h =
    let Told : Option Broken → Type 0 = λ w. Tells (Err e) w in
    subst Told (ap (λ ys. head_of (flat_map f (map v ys))) (sym (drop_step xs i x inside at)) ∙ before)
    (tells_front e (f (v x)) (flat_map f (map v (drop (i + 1) xs))) h)

-- the operation of a name of the object that stands here
pub provided_here : (s : Option Standing) (o : Object) (n : Name) → option_map (λ t. t.own) s ≡ Some o
    → option_and_then (λ t. provided_named n t.own.provides) s ≡ provided_named n o.provides
provided_here None o n e = absurd (cc)
provided_here (Some t) o n e = cc

-- the fault of a body, by what is known in it
pub body_fault_by : (x : Design) (o : Object) (b : Body) (name : Name) (vars : List Datum) (calls : List Offer) (params : List Param)
    (locals : List Datum) →
    o.name ≡ name → vars ≡ o.vars → calls ≡ offers x o → params ≡ params_by (provided_named b.name o.provides) → locals ≡ b.locals →
    body_fault x o b ≡ part_fault name (Some b.name) (scope_with vars calls params locals) b.block
body_fault_by x o b name vars calls params locals n v c p l =
    let there = params_by (provided_named b.name o.provides) in
    ap (λ z. part_fault z (Some b.name) (scope_with o.vars (offers x o) there b.locals) b.block) n
    ∙ ap (λ z. part_fault name (Some b.name) (scope_with z (offers x o) there b.locals) b.block) (sym v)
    ∙ ap (λ z. part_fault name (Some b.name) (scope_with vars z there b.locals) b.block) (sym c)
    ∙ ap (λ z. part_fault name (Some b.name) (scope_with vars calls z b.locals) b.block) (sym p)
    ∙ ap (λ z. part_fault name (Some b.name) (scope_with vars calls params z) b.block) (sym l)

pub ruleset scope_steps = (given_cons, head_given)
