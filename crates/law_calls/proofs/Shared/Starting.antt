-- How often calls request a task, in blocks and through protected operations: a block that can't request it counts nothing, what a call counts
-- covers the body that it leads to, and what a task's block leads to is among what tasks can call.
use Rattle.std.specs.Prelude.{◌≡◌, ◌≤◌, ℕ, zero, suc, true, false, if◌then◌else◌, List, filter, length, slice_get, Option, Some, None, ⊤, refl}
use Rattle.std.proofs.Common.{sym, ◌∙◌, ap, subst, arith, inl, inr}
use Rattle.std.proofs.lemmas.Bool.{true≢false, and_parts, false_from_ne_true}
use Rattle.seq_tree.specs.Names.{Name, same_name}
use Rattle.seq_tree.specs.Statements.{Statements}
use Rattle.seq_tree.specs.Operations.{Operation}
use Rattle.seq_tree.specs.Calls.{block_calls}
use Rattle.seq_tree.specs.Dearest.{is_call_of, starts_through}
use Rattle.seq_tree.specs.declared.tree.OpName.{OpName}
use Rattle.ada_tree.specs.Programs.{Form, Unit, Program, Passive, Shared, Cyclic, Sporadic, is_task}
use Rattle.ada_tree.specs.Uses.{shared_ops, ops_of_shared, shared_named, is_confined, is_requested}
use Rattle.ada_tree.specs.Rules.{MeetsRules}
use Rattle.arrivals_tree.specs.Arriving.{Arrivals}
use Rattle.ods_tree.specs.Services.{Service, Sort, service_named}
use Rattle.ods_tree.specs.Services as sort
use Rattle.analysis.specs.Starts.{calls_by, service_calls, calls_within, all_calls, can_request, starts_by, service_starts, starts_within}
use Rattle.analysis.specs.Starts.{block_starts}
use Rattle.analysis.specs.Sound.{name_of}
use Rattle.guarantee.specs.ResponseLaw.{program_services}
use Rattle.machine.specs.Systems.{TaskUnit, ReleasePattern, Periodic, Requested, CallTarget, Plain, Protected, Request, Unknown, system, callee}
use Rattle.law_lists.proofs.Shared.Facts.{same-is, is-same}
use Rattle.law_lists.proofs.Shared.Lists.{IsIn, at-in, in-flat, in-some, filter-in, any-in, place-of}
use Rattle.law_lists.proofs.Shared.Weights.{count-none}
use Rattle.law_calls.proofs.Shared.Services.{named-is, IsOf, IsOffered, service-of, passive-body, confined-plain}
use Rattle.law_calls.proofs.Shared.Systems.{thread_form, thread-at}
use Rattle.law_calls.proofs.Shared.Bodies.{starts-cover}
use Rattle.law_calls.proofs.Shared.UnitRules.{call-passive}
use Rattle.law_calls.proofs.Shared.Apart.{units_apart, one-unit}
use Rattle.law_calls.proofs.Shared.Named.{IsServed, ServedAs, served-as}
use Rattle.law_calls.proofs.Shared.Requests.{requested-on}
use Rattle.law_calls.proofs.Shared.Rings.{IsPassive, named-passive, no-ring}

-- how often a call requests an operation, itself or through protected operations
abbrev pub through : List Service → OpName → Name → Name → ℕ
through ss target object op = if is_call_of target object op then 1 else starts_within (length ss) ss target object op

module _ (ss : List Service) (target : OpName) where
  itself : (n : ℕ) (c : OpName) → IsIn c (calls_within n ss c)
  itself zero c = inl refl
  itself (suc n) c = inl refl

  -- a call that leads to no call of the target counts nothing besides itself
  start-none : (n : ℕ) (c : OpName) → ((d : OpName) → IsIn d (calls_within n ss c) → is_call_of target d.object d.op ≡ false)
      → starts_within n ss target c.object c.op ≡ 0
  start-none zero c none = refl
  start-none (suc n) c none = by (service_named ss c.object c.op) refl (start-none n)
    where
      Later : Type 0
      Later = (d : OpName) → ((e : OpName) → IsIn e (calls_within n ss d) → is_call_of target e.object e.op ≡ false)
          → starts_within n ss target d.object d.op ≡ 0

      sorted : (s : Service) (x : Sort) → ((d : OpName) → IsIn d (calls_by (calls_within n ss) x s.op)
          → is_call_of target d.object d.op ≡ false) → Later
          → starts_by (starts_through target (starts_within n ss target)) x s.op ≡ 0
      sorted s sort.Plain inner more = refl
      sorted s sort.Protected inner more =
          let within : (d : OpName) → IsIn d (block_calls s.op.block) → (e : OpName) → IsIn e (calls_within n ss d)
          → is_call_of target e.object e.op ≡ false =
          λ d called e among. inner e (in-flat (calls_within n ss) d e (block_calls s.op.block) called among) in
          count-none (λ object op. if is_call_of target object op then 1 else starts_within n ss target object op) s.op.block
          (λ d called. ap (λ b. let k : ℕ = if b then 1 else starts_within n ss target d.object d.op
          in k) (within d called d (itself n d)) ∙ more d (within d called))
      sorted s sort.Request inner more = refl

      by : (o : Option Service) → service_named ss c.object c.op ≡ o → Later
          → service_starts (starts_through target (starts_within n ss target)) o ≡ 0
      by None is more = refl
      by (Some s) is more = sorted s s.sort (λ d h. none d (inr (subst (λ o. IsIn d (service_calls (calls_within n ss) o)) (sym is) h))) more

  -- a block that leads to no call of the target counts nothing
  pub none-started : (b : Statements) → ((d : OpName) → IsIn d (all_calls ss b) → is_call_of target d.object d.op ≡ false)
      → block_starts ss target b ≡ 0
  none-started b none =
      count-none (through ss target) b (λ c called.
      let inner : (e : OpName) → IsIn e (calls_within (length ss) ss c) → is_call_of target e.object e.op ≡ false
      = λ e among. none e (in-flat (calls_within (length ss) ss) c e (block_calls b) called among) in
      ap (λ b'. let k : ℕ = if b' then 1 else starts_within (length ss) ss target c.object c.op
      in k) (inner c (itself (length ss) c)) ∙ start-none (length ss) c inner)

  -- a block that can't request the target's object counts nothing
  pub unrequested : (b : Statements) → can_request ss target.object b ≡ false → block_starts ss target b ≡ 0
  unrequested b e =
      none-started b (λ d among. false_from_ne_true (is_call_of target d.object d.op) (λ call.
      let object : same_name target.object d.object ≡ true = (and_parts (same_name target.object d.object) (same_name target.op d.op) call).0 in
      let back : same_name d.object target.object ≡ true = is-same d.object target.object (sym (same-is target.object d.object object)) in
      true≢false (sym (any-in (λ c. same_name c.object target.object) d (all_calls ss b) among back) ∙ e)))

  -- a call of a plain operation counts nothing besides itself
  plain-start : (n : ℕ) (c : OpName) → ((s : Service) → service_named ss c.object c.op ≡ Some s → s.sort ≡ sort.Plain)
      → starts_within n ss target c.object c.op ≡ 0
  plain-start zero c plain = refl
  plain-start (suc n) c plain = by (service_named ss c.object c.op) refl
    where
      by : (o : Option Service) → service_named ss c.object c.op ≡ o → service_starts (starts_through target (starts_within n ss target)) o ≡ 0
      by None is = refl
      by (Some s) is = ap (λ x. starts_by (starts_through target (starts_within n ss target)) x s.op) (plain s is)

-- what a call leads to, some task can call where some task can call it
module _ (p : Program) where
  leads-requested : (n : ℕ) (c d : OpName) → is_requested p c ≡ true → IsIn d (calls_within n (program_services p) c) → is_requested p d ≡ true
  leads-requested zero c d e (inl same) = ap (is_requested p) (sym same) ∙ e
  leads-requested zero c d e (inr none) = absurd none
  leads-requested (suc n) c d e (inl same) = ap (is_requested p) (sym same) ∙ e
  leads-requested (suc n) c d e (inr h) = by (service_named (program_services p) c.object c.op) refl h (leads-requested n)
    where
      sorted : (s : Service) → service_named (program_services p) c.object c.op ≡ Some s → (x : Sort) → s.sort ≡ x
          → IsIn d (calls_by (calls_within n (program_services p)) x s.op)
          → ((z w : OpName) → is_requested p z ≡ true → IsIn w (calls_within n (program_services p) z) → is_requested p w ≡ true)
          → is_requested p d ≡ true
      sorted s is sort.Plain sorts k more = absurd k
      sorted s is sort.Protected sorts k more =
          let found = in-some (calls_within n (program_services p)) (block_calls s.op.block) d k in
          let named = named-is (program_services p) c s is in
          let u = service-of p s named.0 in
          let holds : IsIn s.op (shared_ops u.unit.form) = subst (λ x. IsOf x u.unit.form s.op) sorts u.does in
          let shared : IsIn s.op (shared_named p c) =
          filter-in (λ (q : Operation). same_name q.sig.name c.op) s.op (ops_of_shared p c.object)
          (in-flat (λ (v : Unit). shared_ops v.form) u.unit s.op (filter (λ v. same_name v.name c.object) p.units)
          (filter-in (λ (v : Unit). same_name v.name c.object) u.unit p.units u.among
          (is-same u.unit.name c.object (u.named ∙ ap (λ (z : OpName). z.object) named.1))) holds)
          (is-same s.op.sig.name c.op (ap (λ (z : OpName). z.op) named.1)) in
          more found.0 d (requested-on p c found.0 e (in-flat (λ (q : Operation). block_calls q.block) s.op found.0
          (shared_named p c) shared found.1)) found.2
      sorted s is sort.Request sorts k more = absurd k

      by : (o : Option Service) → service_named (program_services p) c.object c.op ≡ o
          → IsIn d (service_calls (calls_within n (program_services p)) o)
          → ((z w : OpName) → is_requested p z ≡ true → IsIn w (calls_within n (program_services p) z) → is_requested p w ≡ true)
          → is_requested p d ≡ true
      by None is k more = absurd k
      by (Some s) is k more = sorted s is s.sort refl k more

  -- the same of a block
  pub block-requested : (b : Statements) → ((c : OpName) → IsIn c (block_calls b) → is_requested p c ≡ true) → (d : OpName)
      → IsIn d (all_calls (program_services p) b) → is_requested p d ≡ true
  block-requested b written d h =
      let found = in-some (calls_within (length (program_services p)) (program_services p)) (block_calls b) d h in
      leads-requested (length (program_services p)) found.0 d (written found.0 found.1) found.2

-- a unit with a task is neither passive nor protected
task-confined : (f : Form) → is_task f ≡ true → is_confined f ≡ true → ⊥
task-confined (Passive ops) e h = true≢false (sym e)
task-confined (Shared ceiling vars ops) e h = true≢false (sym h)
task-confined (Cyclic priority offset period vars block) e h = true≢false (sym h)
task-confined (Sporadic priority ceiling op separation jitter external vars block) e h = true≢false (sym h)

task-shared : (f : Form) (o : Operation) → is_task f ≡ true → IsIn o (shared_ops f) → ⊥
task-shared (Passive ops) o e h = h
task-shared (Shared ceiling vars ops) o e h = true≢false (sym e)
task-shared (Cyclic priority offset period vars block) o e h = h
task-shared (Sporadic priority ceiling op separation jitter external vars block) o e h = h

-- what a call counts covers the body that it leads to
abbrev pub CoversBody : Program → OpName → OpName → CallTarget → Type 0
CoversBody p target c (Plain o) = block_starts (program_services p) target o.block ≤ through (program_services p) target c.object c.op
CoversBody p target c (Protected object k g o) = block_starts (program_services p) target o.block ≤ through (program_services p) target c.object c.op
CoversBody p target c (Request task) = ⊤
CoversBody p target c Unknown = ⊤

-- of a program, where the target's object is a task
module _ (p : Program) (a : Arrivals) (rules : MeetsRules p) (target : OpName) (j : ℕ) (th : TaskUnit) (at : slice_get (system p a).threads j
    ≡ Some th) (named : target.object ≡ th.name) where
  abbrev ss : List Service
  ss = program_services p

  task-form : (t : TaskUnit) (timing : ReleasePattern) (f : Form) → thread_form t timing f → is_task f ≡ true
  task-form t (Periodic offset period) f form = ap is_task form
  task-form t (Requested op ceiling separation jitter external) f form = ap is_task form

  -- the unit of a call of the target is a task's
  target-task : (c : OpName) → is_call_of target c.object c.op ≡ true → (u : Unit) → IsIn u p.units → u.name ≡ c.object → is_task u.form ≡ true
  target-task c call u among unit-named =
      let found = thread-at p a j th at in
      let is = found.2 in
      let object : target.object ≡ c.object
      = same-is target.object c.object (and_parts (same_name target.object c.object) (same_name target.op c.op) call).0 in
      let one : u ≡ found.1 = one-unit p rules u found.1 among (at-in p.units found.0 found.1 is.stands)
      (unit-named ∙ sym object ∙ named ∙ sym is.name) in
      ap (λ (v : Unit). is_task v.form) one ∙ task-form th th.timing found.1.form is.form

  -- a call of a passive unit counts nothing
  passive-none : (c : OpName) → IsPassive p c.object → through ss target c.object c.op ≡ 0
  passive-none c passive =
      let other : is_call_of target c.object c.op ≡ false =
      false_from_ne_true (is_call_of target c.object c.op) (λ call. task-confined passive.unit.form
      (target-task c call passive.unit passive.among passive.named) passive.confined) in
      ap (λ b. let k : ℕ = if b then 1 else starts_within (length ss) ss target c.object c.op in k) other
      ∙ plain-start ss target (length ss) c (λ s found.
      let is = named-is ss c s found in
      let u = service-of p s is.0 in
      let one = one-unit p rules u.unit passive.unit u.among passive.among (u.named ∙ ap (λ (z : OpName). z.object) is.1 ∙ sym passive.named) in
      confined-plain u.unit.form s.sort s.op (ap (λ (v : Unit). is_confined v.form) one ∙ passive.confined) u.does)

  plain-none : (f : Form) (k : ℕ) (u : Unit) → slice_get p.units k ≡ Some u → u.form ≡ f → (o : Operation) → IsOf sort.Plain f o
      → block_starts ss target o.block ≡ 0
  plain-none f k u stands is o holds =
      let body = passive-body u.form o (subst (λ z. IsOf sort.Plain z o) (sym is) holds) in
      count-none (through ss target) o.block
      (λ d called. passive-none d (named-passive p d (call-passive p rules k u stands _ body.0 body.1 d called)))

  service-covered : (c : OpName) (s : Service) → service_named ss c.object c.op ≡ Some s
      → block_starts ss target s.op.block ≤ through ss target c.object c.op
  service-covered c s found = by s.sort refl u.does
    where
      is : IsIn s ss × (name_of s ≡ c)
      is = named-is ss c s found

      u : IsOffered p s
      u = service-of p s is.0

      by : (x : Sort) → s.sort ≡ x → IsOf x u.unit.form s.op → block_starts ss target s.op.block ≤ through ss target c.object c.op
      by sort.Plain sorts does =
          let place = place-of u.unit p.units u.among in
          let none = plain-none u.unit.form place.0 u.unit place.1 refl s.op does in omega (arith, none)
      by sort.Protected sorts does =
          let other : is_call_of target c.object c.op ≡ false =
          false_from_ne_true (is_call_of target c.object c.op) (λ call. task-shared u.unit.form s.op
          (target-task c call u.unit u.among (u.named ∙ ap (λ (z : OpName). z.object) is.1)) does) in
          let counts : through ss target c.object c.op ≡ block_starts ss target s.op.block =
          ap (λ b. let k : ℕ = if b then 1 else starts_within (length ss) ss target c.object c.op in k) other
          ∙ starts-cover ss (no-ring p rules) target c.object c.op ∙ ap (service_starts (block_starts ss target)) found ∙ ap
          (λ x. starts_by (block_starts ss target) x s.op) sorts in
          omega (arith, counts)
      by sort.Request sorts does =
          let none : block_starts ss target s.op.block ≡ 0
          = count-none (through ss target) s.op.block (λ d called. absurd (subst (IsIn d) does.1 called)) in omega (arith, none)

  pub covers-body : (c : OpName) → CoversBody p target c (callee (system p a) c.object c.op)
  covers-body c = by (callee (system p a) c.object c.op) (served-as p a (units_apart p rules) c.object c.op)
    where
      body : (x : Sort) (o : Operation) → IsServed p c.object c.op x o → block_starts ss target o.block ≤ through ss target c.object c.op
      body x o s = subst (λ (q : Operation). block_starts ss target q.block ≤ through ss target c.object c.op) s.does
          (service-covered c s.service s.found)

      by : (k : CallTarget) → ServedAs p (system p a) c.object c.op k → CoversBody p target c k
      by (Plain o) s = body sort.Plain o s
      by (Protected object k g o) s = body sort.Protected o s.0
      by (Request task) s = tt
      by Unknown s = tt
