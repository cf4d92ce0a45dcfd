-- The lists of misfits, object by object, and the first of lists one after another.
use Rattle.std.specs.Prelude.{◌≡◌, Bool, true, false, not, ◌&&◌, ◌||◌, List, [], ◌∷◌, ◌++◌, map, filter, filter_map, flat_map, find, Option, Some}
use Rattle.std.specs.Prelude.{None}
use Rattle.std.specs.Prelude.{Result, option_map, if◌then◌else◌, refl}
use Rattle.std.specs.List.{cons_option}
use Rattle.std.proofs.Common.{sym, ◌∙◌, ap, subst}
use Rattle.ods_tree.specs.Designs.{Design}
use Rattle.ods_tree.specs.Walk.{Standing, objects, terminals, is_terminal, only_if}
use Rattle.design_rules.specs.Bodies.{is_active}
use Rattle.design_rules.specs.Clashes.{is_aser}
use Rattle.design_rules.specs.Lookups.{has_thread, operation_named}
use Rattle.ods_index.specs.Judging.{head_of}
use Rattle.ods_index.proofs.Shared.TellSteps.{head_later}
use Rattle.ods_names.proofs.Shared.NeedSteps.{head_filter}
use Rattle.background_designs.specs.Clients.{is_hser, is_client, is_server}
use Rattle.background_designs.specs.Misfits.{Misfit, A1, A2, A4, A5, is_such, is_misfit, is_slow}
use Rattle.background_designs.specs.Misfits.{misfit_actives, foreign_waits, foreign_servers, background_requests, slow_threads, misfits}
use Rattle.background.specs.Parts.{bad_objects, first_need, need_fault, bad_needs}
use Rattle.background.specs.Told.{IsTold, Tells, misfit_of}
use Rattle.background.specs.declared.delivery.BackgroundRefusal.{BackgroundRefusal}
use Rattle.background.specs.declared.delivery.BackgroundRefusal.TheVariants as refusal
use Rattle.background.specs.declared.misfits.Part.{Part}
use Rattle.background.specs.declared.misfits.Part.TheVariants.{Shape, Service, Deadline}
use Rattle.background.specs.declared.misfits.Callers.TheVariants.{Wait, GoOn}

-- what is given of those that pass a test
given-passed : {A B : Type 0} (test : A → Bool) (b : A → Bool) (f : A → B) (xs : List A)
    → filter_map (λ x. only_if (b x) (f x)) (filter test xs) ≡ filter_map (λ x. only_if (test x && b x) (f x)) xs
given-passed test b f [] = refl
given-passed test b f (x ∷ xs) = by (test x) (given-passed test b f xs)
  where
    by : (t : Bool) → filter_map (λ x. only_if (b x) (f x)) (filter test xs) ≡ filter_map (λ x. only_if (test x && b x) (f x)) xs
        → filter_map (λ x. only_if (b x) (f x)) (if t then x ∷ filter test xs else filter test xs)
        ≡ cons_option (only_if (t && b x) (f x)) (filter_map (λ x. only_if (test x && b x) (f x)) xs)
    by true e = ap (cons_option (only_if (b x) (f x))) e
    by false e = e

-- objects by themselves
shapes : (x : Design) → misfit_actives x ≡ bad_objects Shape (objects x)
shapes x = given-passed is_terminal is_misfit (λ s. A1 s.own.name) (objects x)

-- those of a list that pass a test, by what is told of them
told-through : {A B C : Type 0} (g : A → B) (test : B → Bool) (f : B → C) (xs : List A)
    → filter_map (λ b. only_if (test b) (f b)) (map g xs) ≡ filter_map (λ a. only_if (test (g a)) (f (g a))) xs
told-through g test f [] = refl
told-through g test f (x ∷ xs) = ap (cons_option (only_if (test (g x)) (f (g x)))) (told-through g test f xs)

deadlines : (x : Design) → slow_threads x ≡ bad_objects Deadline (objects x)
deadlines x =
    told-through (λ (s : Standing). s.own) is_slow (λ o. A5 o.name) (filter (λ s. has_thread s.own.kind) (terminals x))
    ∙ given-passed (λ (s : Standing). has_thread s.own.kind) (λ s. is_slow s.own) (λ s. A5 s.own.name) (terminals x)
    ∙ given-passed is_terminal (λ s. has_thread s.own.kind && is_slow s.own) (λ s. A5 s.own.name) (objects x)

-- the first of all lists is the first of the firsts
first-of-each : {A B : Type 0} (g : A → List B) (h : A → Option B) (xs : List A) → ((a : A) → head_of (g a) ≡ h a)
    → head_of (flat_map g xs) ≡ head_of (filter_map h xs)
first-of-each g h [] same = refl
first-of-each {A} {B} g h (x ∷ xs) same = by (g x) (h x) (same x) (first-of-each g h xs same)
  where
    by : (bs : List B) (o : Option B) → head_of bs ≡ o → head_of (flat_map g xs) ≡ head_of (filter_map h xs)
        → head_of (bs ++ flat_map g xs) ≡ head_of (cons_option o (filter_map h xs))
    by [] o e rest = rest ∙ ap (λ p. head_of (cons_option p (filter_map h xs))) e
    by (b ∷ bs) o e rest = ap (λ p. head_of (cons_option p (filter_map h xs))) e

-- the same of those that pass a test
pub first-passed : {A B : Type 0} (test : A → Bool) (g : A → List B) (h : A → Option B) (xs : List A) → ((a : A) → head_of (g a) ≡ h a)
    → head_of (flat_map g (filter test xs)) ≡ head_of (filter_map (λ a. if test a then h a else None) xs)
first-passed test g h [] same = refl
first-passed {A} {B} test g h (x ∷ xs) same = by (test x) (g x) (h x) (same x) refl (first-passed test g h xs same)
  where
    Rest : List B
    Rest = filter_map (λ a. if test a then h a else None) xs

    one : (bs : List B) (o : Option B) → head_of bs ≡ o → head_of (flat_map g (filter test xs)) ≡ head_of Rest
        → head_of (bs ++ flat_map g (filter test xs)) ≡ head_of (cons_option o Rest)
    one [] o e rest = rest ∙ ap (λ p. head_of (cons_option p Rest)) e
    one (b ∷ bs) o e rest = ap (λ p. head_of (cons_option p Rest)) e

    by : (t : Bool) (bs : List B) (o : Option B) → head_of bs ≡ o → g x ≡ bs
        → head_of (flat_map g (filter test xs)) ≡ head_of Rest
        → head_of (flat_map g (if t then x ∷ filter test xs else filter test xs)) ≡ head_of (cons_option (if t then o else None) Rest)
    by true bs o e is rest = ap (λ cs. head_of (cs ++ flat_map g (filter test xs))) is ∙ one bs o e rest
    by false bs o e is rest = rest

-- the first of the operations that an object requires and may not
first-need : {A B : Type 0} (f : A → B) (b : Bool) (test : A → Bool) (xs : List A)
    → head_of (map f (filter (λ a. b && test a) xs)) ≡ (if b then option_map f (find test xs) else None)
first-need f true test xs = head_filter f test xs
first-need {A} f false test xs = ap (λ ys. head_of (map f ys)) (none xs)
  where
    none : (xs : List A) → filter (λ a. false && test a) xs ≡ []
    none [] = refl
    none (x ∷ xs) = none xs

waits : (x : Design) → head_of (foreign_waits x) ≡ head_of (bad_needs Wait x (objects x))
waits x =
    first-of-each (λ s. map (A2 s.own.name) (filter (λ n. not (is_active s.own.kind) && is_such is_hser (operation_named x n)) s.own.needs))
    (need_fault Wait x) (objects x)
    (λ s. first-need (A2 s.own.name) (not (is_active s.own.kind)) (λ n. is_such is_hser (operation_named x n)) s.own.needs)

-- a condition within another
both-ways : {B : Type 0} (t b : Bool) (o : Option B) → (if t then (if b then o else None) else None) ≡ (if t && b then o else None)
both-ways true b o = refl
both-ways false b o = refl

given-same : {A B : Type 0} (g h : A → Option B) (xs : List A) → ((a : A) → g a ≡ h a) → filter_map g xs ≡ filter_map h xs
given-same g h [] same = refl
given-same g h (x ∷ xs) same = ap (λ o. cons_option o (filter_map g xs)) (same x) ∙ ap (cons_option (h x)) (given-same g h xs same)

requests : (x : Design) → head_of (background_requests x) ≡ head_of (bad_needs GoOn x (objects x))
requests x =
    first-passed is_terminal
    (λ s. map (A4 s.own.name) (filter (λ n. (is_client s.own || is_server s.own) && is_such is_aser (operation_named x n)) s.own.needs))
    (λ s. if is_client s.own || is_server s.own then option_map (A4 s.own.name) (first_need GoOn x s.own.needs) else None) (objects x)
    (λ s. first-need (A4 s.own.name) (is_client s.own || is_server s.own) (λ n. is_such is_aser (operation_named x n)) s.own.needs)
    ∙ ap head_of (given-same _ (need_fault GoOn x) (objects x)
    (λ s. both-ways (is_terminal s) (is_client s.own || is_server s.own) (option_map (A4 s.own.name) (first_need GoOn x s.own.needs))))

-- what is told of a list is told of it and of another behind it
front : {A : Type 0} (xs ys : List A) (a : A) → head_of xs ≡ Some a → head_of (xs ++ ys) ≡ Some a
front [] ys a e = absurd (cc)
front (x ∷ xs) ys a e = e

told-front : (e : BackgroundRefusal) (xs ys : List Misfit) → IsTold e (head_of xs) → IsTold e (head_of (xs ++ ys))
told-front (refusal.Rule rule) xs ys h = front xs ys (misfit_of rule) h
told-front (refusal.Broken broken) xs ys h = h
told-front (refusal.Miss thread miss) xs ys h = h
told-front refusal.Long xs ys h = h
told-front refusal.NoMemory xs ys h = h

-- what is told of the parts one after another is told of all misfits
module _ (x : Design) (os : List Standing) (walked : os ≡ objects x) where
  told-same : (e : BackgroundRefusal) (o p : Option Misfit) → o ≡ p → IsTold e o → IsTold e p
  told-same e o p same h = let T : Option Misfit → Type 0 = IsTold e in subst T same h

  own : (part : Part) → bad_objects part os ≡ bad_objects part (objects x)
  own part = ap (bad_objects part) walked

  shape : head_of (bad_objects Shape os) ≡ head_of (misfit_actives x)
  shape = ap head_of (own Shape ∙ sym (shapes x))

  wait : head_of (bad_needs Wait x os) ≡ head_of (foreign_waits x)
  wait = ap (λ zs. head_of (bad_needs Wait x zs)) walked ∙ sym (waits x)

  service : head_of (bad_objects Service os) ≡ head_of (foreign_servers x)
  service = ap head_of (own Service)

  request : head_of (bad_needs GoOn x os) ≡ head_of (background_requests x)
  request = ap (λ zs. head_of (bad_needs GoOn x zs)) walked ∙ sym (requests x)

  deadline : head_of (bad_objects Deadline os) ≡ head_of (slow_threads x)
  deadline = ap head_of (own Deadline ∙ sym (deadlines x))

  pub shape-told : (e : BackgroundRefusal) → IsTold e (head_of (bad_objects Shape os)) → IsTold e (head_of (misfits x))
  shape-told e h = told-front e (misfit_actives x) _ (told-same e _ _ shape h)

  module _ (no-shape : head_of (bad_objects Shape os) ≡ None) where
    after-shape : head_of (misfits x) ≡ head_of (foreign_waits x ++ (foreign_servers x ++ (background_requests x ++ slow_threads x)))
    after-shape = head_later (misfit_actives x) _ (sym shape ∙ no-shape)

    pub wait-told : (e : BackgroundRefusal) → IsTold e (head_of (bad_needs Wait x os)) → IsTold e (head_of (misfits x))
    wait-told e h = told-same e _ _ (sym after-shape) (told-front e (foreign_waits x) _ (told-same e _ _ wait h))

    module _ (no-wait : head_of (bad_needs Wait x os) ≡ None) where
      after-wait : head_of (misfits x) ≡ head_of (foreign_servers x ++ (background_requests x ++ slow_threads x))
      after-wait = after-shape ∙ head_later (foreign_waits x) _ (sym wait ∙ no-wait)

      pub service-told : (e : BackgroundRefusal) → IsTold e (head_of (bad_objects Service os)) → IsTold e (head_of (misfits x))
      service-told e h = told-same e _ _ (sym after-wait) (told-front e (foreign_servers x) _ (told-same e _ _ service h))

      module _ (no-service : head_of (bad_objects Service os) ≡ None) where
        after-service : head_of (misfits x) ≡ head_of (background_requests x ++ slow_threads x)
        after-service = after-wait ∙ head_later (foreign_servers x) _ (sym service ∙ no-service)

        pub request-told : (e : BackgroundRefusal) → IsTold e (head_of (bad_needs GoOn x os)) → IsTold e (head_of (misfits x))
        request-told e h = told-same e _ _ (sym after-service) (told-front e (background_requests x) _ (told-same e _ _ request h))

        pub all-told : (r : Result (Unit {0}) BackgroundRefusal) → head_of (bad_needs GoOn x os) ≡ None
            → Tells r (head_of (bad_objects Deadline os)) → Tells r (head_of (misfits x))
        all-told r no-request h =
            let T : Option Misfit → Type 0 = Tells r in
            subst T (deadline ∙ sym (after-service ∙ head_later (background_requests x) _ (sym request ∙ no-request))) h
