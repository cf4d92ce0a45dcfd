-- The software of a program that meets the rules is clear.
use Rattle.std.proofs.Common.{◌≡◌, ◌⊎◌, inl, inr, ℕ, zero, suc, Bool, true, false, not, ◌&&◌, ◌||◌, List, [], ◌∷◌, map, length, Option, Some, None}
use Rattle.std.proofs.Common.{refl, sym, ap}
use Rattle.std.proofs.Common.{subst, ◌∙◌}
use Rattle.std.specs.Prelude.{filter_map, find, slice_get, option_map, unwrap_or, if◌then◌else◌}
use Rattle.std.specs.List.{cons_option}
use Rattle.std.proofs.lemmas.Bool.{and_from, and_parts}
use Rattle.std.proofs.lemmas.Option.{same_Some, none-some, slice_get-map}
use Rattle.seq_tree.specs.Lists.{Each}
use Rattle.seq_tree.specs.Names.{Name, same_name, is_named, are_distinct}
use Rattle.seq_tree.specs.Statements.{Statement, Statements, Branches, Null, Assign, If, For, ExitWhen, Call, Work, Put, End, Then, Nothing}
use Rattle.seq_tree.specs.Statements.{Else, When}
use Rattle.seq_tree.specs.Operations.{Operation}
use Rattle.seq_tree.specs.Calls.{block_calls}
use Rattle.seq_tree.specs.Runs as runs
use Rattle.seq_tree.specs.declared.tree.OpName.{OpName}
use Rattle.ods_tree.specs.Flats.{Guarded}
use Rattle.ods_tree.specs.Services.{Service, Sort, callee_of, callee_by, service_named}
use Rattle.ods_tree.specs.Services as sort
use Rattle.ada_tree.specs.Programs.{Form, Unit, Program, Passive, Shared, Cyclic, Sporadic}
use Rattle.ada_tree.specs.Bodies.{Body, bodies, op_body}
use Rattle.ada_tree.specs.Rules.{MeetsRules}
use Rattle.arrivals_tree.specs.Arriving.{Arrivals}
use Rattle.machine.specs.Systems.{System, system, CallTarget, Plain, Protected, Request, Unknown, callee}
use Rattle.guarantee.specs.Software.{Task, Software, program_software, all_services, leads_to, guarded_by, task_by}
use Rattle.guarantee.specs.ResponseLaw.{program_services}
use Rattle.analysis.specs.Sound.{name_of}
use Rattle.law_lists.proofs.Shared.Depths.{IsDeep}
use Rattle.law_calls.proofs.Shared.Passives.{passive_by, passive_calls, passive-deep}
use Rattle.law_calls.proofs.Shared.UnitNames.{AreApart}
use Rattle.law_calls.proofs.Shared.Apart.{units_apart, one-unit}
use Rattle.law_lists.proofs.Shared.Lists.{IsIn, found-in}
use Rattle.law_calls.proofs.Shared.Callees.{plain_of, protected_of, requests_of, in-services}
use Rattle.law_calls.proofs.Shared.Services.{named-is}
use Rattle.law_lists.proofs.Shared.Facts.{same-self, same-is}
use Rattle.law_tasks.proofs.Shared.Courses.{IsApt, IsFitCallee, FitStatement, FitBlock, FitBranches, seen}
use Rattle.law_tasks.proofs.Shared.Programs.{Leads, course}
use Rattle.law_tasks.proofs.Shared.AptPrograms.{apt, fit_body}
use Rattle.law_tasks.proofs.Shared.Fits.{both_block}
use Rattle.law_walks.specs.Fit as fit
use Rattle.law_walks.specs.Fit.{MayStatement, MayBlock, MayBranches, MayCall, MayRun}
use Rattle.law_traces.specs.Clear.{IsClear, asked_op, is_request}

-- WHAT IS FIT may be walked, where its calls may be
mutual
  may-statement : (Good Weak : Name → Name → Type 0) → ((object op : Name) → Good object op → Weak object op) → (within : Bool) (s : Statement)
      → FitStatement Good within s → MayStatement Weak within s
  may-statement Good Weak to within Null f = tt
  may-statement Good Weak to within (Assign target e) f = tt
  may-statement Good Weak to within (If branches) f = may-branches Good Weak to within branches f
  may-statement Good Weak to within (For name low high b) f = may-block Good Weak to true b f
  may-statement Good Weak to within (ExitWhen condition) f = f
  may-statement Good Weak to within (Call object op actuals) f = to object op f
  may-statement Good Weak to within (Work ticks) f = tt
  may-statement Good Weak to within (Put e) f = tt

  may-block : (Good Weak : Name → Name → Type 0) → ((object op : Name) → Good object op → Weak object op) → (within : Bool) (b : Statements)
      → FitBlock Good within b → MayBlock Weak within b
  may-block Good Weak to within End f = tt
  may-block Good Weak to within (Then first rest) f = (may-statement Good Weak to within first f.0, may-block Good Weak to within rest f.1)

  may-branches : (Good Weak : Name → Name → Type 0) → ((object op : Name) → Good object op → Weak object op) → (within : Bool) (b : Branches)
      → FitBranches Good within b → MayBranches Weak within b
  may-branches Good Weak to within Nothing f = tt
  may-branches Good Weak to within (Else block) f = may-block Good Weak to within block f
  may-branches Good Weak to within (When condition block others) f
      = (may-block Good Weak to within block f.0, may-branches Good Weak to within others f.1)

-- facts of what is made of items
each-filter_map : {A B : Type 0} (P : B → Type 0) (f : A → Option B) (xs : List A)
    → ((i : ℕ) (x : A) (y : B) → slice_get xs i ≡ Some x → f x ≡ Some y → P y) → Each P (filter_map f xs)
each-filter_map {A} {B} P f [] one = tt
each-filter_map {A} {B} P f (x ∷ xs) one = by (f x) refl (each-filter_map P f xs (λ i z y at. one (suc i) z y at))
  where
    by : (o : Option B) → f x ≡ o → Each P (filter_map f xs) → Each P (cons_option o (filter_map f xs))
    by None e more = more
    by (Some y) e more = (one zero x y refl e, more)

each-places : {A : Type 0} (P : A → Type 0) (xs : List A) → ((i : ℕ) (x : A) → slice_get xs i ≡ Some x → P x) → Each P xs
each-places P [] one = tt
each-places P (x ∷ xs) one = (one zero x refl, each-places P xs (λ i y at. one (suc i) y at))

module _ (p : Program) (meets : MeetsRules p) where
  abbrev none : Arrivals
  none = record { until = 0; work = []; items = [] }

  abbrev y : System
  y = system p none

  abbrev w : Software
  w = program_software p

  abbrev calls : Name → Name → runs.Callee
  calls = leads_to w

  abbrev op_of : Name → Name → OpName
  op_of object op = record { object = object; op = op }

  is-apt : IsApt (course p none)
  is-apt = apt p none meets

  -- CALLS may be walked, by how deep they are
  leads-by : (Fact : Operation → Type 0) (k : CallTarget) → IsFitCallee (Leads y) k → ((o : Operation) → k ≡ Plain o → Fact o) → fit.Leads Fact (seen k)
  leads-by Fact (Plain o) f one = one o refl
  leads-by Fact (Protected object op g o) f one = tt
  leads-by Fact (Request task) f one = tt
  leads-by Fact Unknown f one = f

  may-call : (n : ℕ) (object op : Name) → Leads y object op × IsDeep (passive_calls y) n (op_of object op) → MayCall calls n object op
  may-call zero object op h =
      subst (fit.Leads (λ o. ⊥)) (sym (is-apt.leads object op))
      (leads-by (λ o. ⊥) (callee y object op) (is-apt.closed object op h.0)
      (λ o e. none-some (block_calls o.block) (sym h.1 ∙ ap passive_by e)))
  may-call (suc n) object op h =
      subst (fit.Leads (λ o. MayBlock (MayCall calls n) false o.block)) (sym (is-apt.leads object op))
      (leads-by (λ o. MayBlock (MayCall calls n) false o.block) (callee y object op) (is-apt.closed object op h.0)
      (λ o e.
      let fits : FitBlock (Leads y) false o.block = subst (IsFitCallee (Leads y)) e (is-apt.closed object op h.0) in
      may-block (λ u q. Leads y u q × IsDeep (passive_calls y) n (op_of u q)) (MayCall calls n) (λ u q. may-call n u q) false o.block
      (both_block (Leads y) (λ u q. IsDeep (passive_calls y) n (op_of u q)) false o.block fits (h.1 (block_calls o.block) (ap passive_by e)))))

  abbrev depth : ℕ
  depth = length (map name_of (program_services p))

  may-run : (i : ℕ) (u : Unit) (j : ℕ) (b : Body) → slice_get p.units i ≡ Some u → slice_get (bodies u.form) j ≡ Some b → MayRun calls depth b.block
  may-run i u j b at at-body =
      may-block (Leads y) (MayCall calls depth)
      (λ object op good. may-call depth object op (good, passive-deep p none meets (op_of object op))) false b.block
      (fit_body p none meets i u j b at at-body)

  -- THREADS
  task-body : (u : Unit) (f : Form) → u.form ≡ f → (t : Task) → task_by u.name f ≡ Some t
      → (b : Body) × (slice_get (bodies f) 0 ≡ Some b) × (b.block ≡ t.block)
  task-body u (Passive ops) e t h = absurd (none-some t h)
  task-body u (Shared ceiling vars ops) e t h = absurd (none-some t h)
  task-body u (Cyclic priority offset period vars block) e t h = (_, refl, ap (λ (z : Task). z.block) (same_Some _ t h))
  task-body u (Sporadic priority ceiling op separation jitter external vars block) e t h = (_, refl, ap (λ (z : Task). z.block) (same_Some _ t h))

  threads : Each (λ t. MayRun calls depth t.block) w.tasks
  threads =
      each-filter_map (λ t. MayRun calls depth t.block) (λ u. task_by u.name u.form) p.units
      (λ i u t at made.
      let b = task-body u u.form refl t made in subst (MayRun calls depth) b.2 (may-run i u 0 b.0 at b.1))

  -- OPERATIONS of objects
  object-ops : (u : Unit) (f : Form) → u.form ≡ f → (g : Guarded) → guarded_by u.name f ≡ Some g → bodies f ≡ map op_body g.ops
  object-ops u (Passive ops) e g h = absurd (none-some g h)
  object-ops u (Shared ceiling vars ops) e g h = ap (λ (z : Guarded). map op_body z.ops) (same_Some _ g h)
  object-ops u (Cyclic priority offset period vars block) e g h = absurd (none-some g h)
  object-ops u (Sporadic priority ceiling op separation jitter external vars block) e g h = absurd (none-some g h)

  objects-may : Each (λ g. Each (λ o. MayRun calls depth o.block) g.ops) w.shared
  objects-may =
      each-filter_map (λ g. Each (λ o. MayRun calls depth o.block) g.ops) (λ u. guarded_by u.name u.form) p.units
      (λ i u g at made.
      each-places (λ o. MayRun calls depth o.block) g.ops
      (λ j o at-op.
      may-run i u j (op_body o) at
      (ap (λ bs. slice_get bs j) (object-ops u u.form refl g made) ∙ slice_get-map op_body g.ops j ∙ ap (option_map op_body) at-op)))

  -- NAMES of objects
  object-name : (u : Unit) (f : Form) (g : Guarded) → guarded_by u.name f ≡ Some g → g.name ≡ u.name
  object-name u (Passive ops) g h = absurd (none-some g h)
  object-name u (Shared ceiling vars ops) g h = ap (λ (z : Guarded). z.name) (sym (same_Some _ g h))
  object-name u (Cyclic priority offset period vars block) g h = absurd (none-some g h)
  object-name u (Sporadic priority ceiling op separation jitter external vars block) g h = absurd (none-some g h)

  not-true : (b : Bool) → b ≡ false → not b ≡ true
  not-true b e = ap not e

  apart-names : (us : List Unit) (name : Name) → Each (λ v. same_name name v.name ≡ false) us
      → is_named (map (λ g. g.name) (filter_map (λ u. guarded_by u.name u.form) us)) name ≡ false
  apart-names [] name h = refl
  apart-names (u ∷ us) name h = by (guarded_by u.name u.form) refl (apart-names us name h.1)
    where
      other : (a b : Name) → same_name a b ≡ false → same_name b a ≡ false
      other a b e = turned (same_name b a) refl
        where
          turned : (z : Bool) → same_name b a ≡ z → z ≡ false
          turned true k =
              let same : b ≡ a = same-is b a k in
              let twice : same_name a b ≡ true = subst (λ c. same_name a c ≡ true) (sym same) (ap (λ c. same_name c a) (sym same) ∙ k) in
              absurd (let z : true ≡ false = sym twice ∙ e in cc)
          turned false k = refl

      by : (o : Option Guarded) → guarded_by u.name u.form ≡ o
          → is_named (map (λ g. g.name) (filter_map (λ u. guarded_by u.name u.form) us)) name ≡ false
          → is_named (map (λ g. g.name) (cons_option o (filter_map (λ u. guarded_by u.name u.form) us))) name ≡ false
      by None e more = more
      by (Some g) e more =
          let rest : List Name = map (λ (g : Guarded). g.name) (filter_map (λ u. guarded_by u.name u.form) us) in
          let first : same_name g.name name ≡ false = ap (λ n. same_name n name) (object-name u u.form g e) ∙ other name u.name h.0 in
          or-false (same_name g.name name) (is_named rest name) first more
        where
          or-false : (a b : Bool) → a ≡ false → b ≡ false → (a || b) ≡ false
          or-false false false e f = refl
          or-false true b e f = absurd cc
          or-false false true e f = absurd cc

  distinct : (us : List Unit) → AreApart us → are_distinct (map (λ g. g.name) (filter_map (λ u. guarded_by u.name u.form) us)) ≡ true
  distinct [] h = refl
  distinct (u ∷ us) h = by (guarded_by u.name u.form) refl (distinct us h.1)
    where
      by : (o : Option Guarded) → guarded_by u.name u.form ≡ o → are_distinct (map (λ g. g.name) (filter_map (λ u. guarded_by u.name u.form) us)) ≡ true
          → are_distinct (map (λ g. g.name) (cons_option o (filter_map (λ u. guarded_by u.name u.form) us))) ≡ true
      by None e more = more
      by (Some g) e more =
          and_from _ _ (not-true _ (ap (is_named (map (λ (g : Guarded). g.name) (filter_map (λ u. guarded_by u.name u.form) us)))
          (object-name u u.form g e) ∙ apart-names us u.name h.0)) more

  -- THE OPERATION by which a task is requested
  abbrev ss : List Service
  ss = all_services w

  sort-in : (name : Name) (x : Sort) (ops : List Operation) (s : Service)
      → IsIn s (map (λ o. let z : Service = record { object = name; sort = x; op = o } in z) ops) → s.sort ≡ x
  sort-in name x [] s h = absurd h
  sort-in name x (o ∷ ops) s (inl e) = ap (λ (z : Service). z.sort) (sym e)
  sort-in name x (o ∷ ops) s (inr h) = sort-in name x ops s h

  plain-sort : (name : Name) (f : Form) (s : Service) → IsIn s (plain_of name f) → s.sort ≡ sort.Plain
  plain-sort name (Passive ops) s h = sort-in name sort.Plain ops s h
  plain-sort name (Shared ceiling vars ops) s h = absurd h
  plain-sort name (Cyclic priority offset period vars block) s h = absurd h
  plain-sort name (Sporadic priority ceiling op separation jitter external vars block) s h = absurd h

  protected-sort : (name : Name) (f : Form) (s : Service) → IsIn s (protected_of name f) → s.sort ≡ sort.Protected
  protected-sort name (Passive ops) s h = absurd h
  protected-sort name (Shared ceiling vars ops) s h = sort-in name sort.Protected ops s h
  protected-sort name (Cyclic priority offset period vars block) s h = absurd h
  protected-sort name (Sporadic priority ceiling op separation jitter external vars block) s h = absurd h

  -- a request is one of a unit
  request-in : (u : Unit) (s : Service) → s.sort ≡ sort.Request
      → IsIn s (plain_of u.name u.form) ⊎ (IsIn s (protected_of u.name u.form) ⊎ IsIn s (requests_of u.name u.form))
      → IsIn s (requests_of u.name u.form)
  request-in u s e (inl h) = absurd (let z = sym (plain-sort u.name u.form s h) ∙ e in cc)
  request-in u s e (inr (inl h)) = absurd (let z = sym (protected-sort u.name u.form s h) ∙ e in cc)
  request-in u s e (inr (inr h)) = h

  request-object : (name : Name) (f : Form) (s : Service) → IsIn s (requests_of name f) → s.object ≡ name
  request-object name (Passive ops) s h = absurd h
  request-object name (Shared ceiling vars ops) s h = absurd h
  request-object name (Cyclic priority offset period vars block) s h = absurd h
  request-object name (Sporadic priority ceiling op separation jitter external vars block) s (inl e) = ap (λ (z : Service). z.object) (sym e)
  request-object name (Sporadic priority ceiling op separation jitter external vars block) s (inr h) = absurd h

  request-one : (name : Name) (f : Form) (s z : Service) → IsIn s (requests_of name f) → IsIn z (requests_of name f) → z ≡ s
  request-one name (Passive ops) s z h i = absurd h
  request-one name (Shared ceiling vars ops) s z h i = absurd h
  request-one name (Cyclic priority offset period vars block) s z h i = absurd h
  request-one name (Sporadic priority ceiling op separation jitter external vars block) s z (inl e) (inl f) = sym f ∙ e
  request-one name (Sporadic priority ceiling op separation jitter external vars block) s z (inr h) i = absurd h
  request-one name (Sporadic priority ceiling op separation jitter external vars block) s z (inl e) (inr i) = absurd i

  -- two requests of one task are one
  requests-one : (s z : Service) → IsIn s ss → IsIn z ss → s.sort ≡ sort.Request → z.sort ≡ sort.Request → s.object ≡ z.object → z ≡ s
  requests-one s z h i e f same =
      let u = in-services p s h in
      let v = in-services p z i in
      let su = request-in u.0 s e u.2 in
      let zv = request-in v.0 z f v.2 in
      let names : v.0.name ≡ u.0.name = sym (request-object v.0.name v.0.form z zv) ∙ sym same ∙ request-object u.0.name u.0.form s su in
      let units : v.0 ≡ u.0 = one-unit p meets v.0 u.0 v.1 u.1 names in
      request-one u.0.name u.0.form s z su (subst (λ x. IsIn z (requests_of x.name x.form)) units zv)

  -- the first that passes a test is there
  find-some : {A : Type 0} (test : A → Bool) (xs : List A) (x : A) → IsIn x xs → test x ≡ true → (z : A) × (find test xs ≡ Some z)
  find-some test [] x h e = absurd h
  find-some {A} test (x' ∷ xs) x h e = by (test x') refl (λ i. find-some test xs x i e)
    where
      by : (b : Bool) → test x' ≡ b → (IsIn x xs → (z : A) × (find test xs ≡ Some z)) → (z : A) × (find test (x' ∷ xs) ≡ Some z)
      by true t more = let F : Bool → Option A = λ b. if b then Some x' else find test xs in (x', ap F t)
      by false t more = here h
        where
          here : (x' ≡ x) ⊎ IsIn x xs → (z : A) × (find test (x' ∷ xs) ≡ Some z)
          here (inl same) = absurd (let z = sym t ∙ ap test same ∙ e in cc)
          here (inr i) =
              let r = more i in let F : Bool → Option A = λ b. if b then Some x' else find test xs in (r.0, ap F t ∙ r.1)

  is-request : (x : Sort) → is_request x ≡ true → x ≡ sort.Request
  is-request sort.Plain e = cc
  is-request sort.Protected e = cc
  is-request sort.Request e = refl

  asked-sort : (x : Sort) (o : Operation) → callee_by x o ≡ runs.Asked → x ≡ sort.Request
  asked-sort sort.Plain o e = cc
  asked-sort sort.Protected o e = cc
  asked-sort sort.Request o e = refl

  abbrev asks : Name → Service → Bool
  asks object s = same_name s.object object && is_request s.sort

  asked-by : (object op : Name) (found : Option Service) → service_named ss object op ≡ found → callee_of found ≡ runs.Asked → asked_op w object ≡ op
  asked-by object op None e h = cc
  asked-by object op (Some s) e h =
      let sorts : s.sort ≡ sort.Request = asked-sort s.sort s.op h in
      let named = named-is ss (op_of object op) s e in
      let at : s.object ≡ object = ap (λ (n : OpName). n.object) named.1 in
      let passes : asks object s ≡ true =
      and_from _ _ (ap (λ n. same_name n object) at ∙ self object) (ap is_request sorts) in
      let f = find-some (asks object) ss s named.0 passes in
      let z : Service = f.0 in
      let there = found-in (asks object) ss z f.1 in
      let both = and_parts (same_name z.object object) (is_request z.sort) there.1 in
      let one : z ≡ s = requests-one s z named.0 there.0 sorts (is-request z.sort both.1) (at ∙ sym (same-is z.object object both.0)) in
      ap (λ o. unwrap_or (option_map (λ (s : Service). s.op.sig.name) o) object) f.1
      ∙ ap (λ (s : Service). s.op.sig.name) one ∙ ap (λ (n : OpName). n.op) named.1
    where
      self : (n : Name) → same_name n n ≡ true
      self n = same-self n

  pub clear : IsClear w
  clear = record {
    depth = depth;
    threads = threads;
    bodies = objects-may;
    asked = λ object op e. asked-by object op (service_named ss object op) refl e;
    objects = distinct p.units (units_apart p meets);
  }
