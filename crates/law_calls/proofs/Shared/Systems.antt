-- What runs of a program: each library, object and task is that of a unit, and what a call leads to is one of their operations.
use Rattle.std.specs.Prelude.{◌≡◌, ◌+◌, ℕ, suc, Bool, true, false, List, [], ◌∷◌, ◌++◌, filter, flat_map, filter_map, slice_get, Option, Some}
use Rattle.std.specs.Prelude.{None, cond, if◌then◌else◌, ⊤, refl}
use Rattle.std.specs.List.{enumerate_from, cons_option}
use Rattle.std.proofs.Common.{sym, ◌∙◌, ap, subst, arith}
use Rattle.std.proofs.lemmas.Option.{none-some, same_Some}
use Rattle.seq_tree.specs.Names.{Name, same_name}
use Rattle.seq_tree.specs.Operations.{Operation}
use Rattle.seq_tree.specs.Lists.{first_from, first_where}
use Rattle.ada_tree.specs.Programs.{Form, Unit, Program, Passive, Shared, Cyclic, Sporadic}
use Rattle.ada_tree.specs.Uses.{passive_ops, passive_named, is_empty}
use Rattle.seq_tree.specs.declared.tree.OpName.{OpName}
use Rattle.arrivals_tree.specs.Arriving.{Arrivals, durations}
use Rattle.machine.specs.Systems.{System, TaskUnit, ProtectedUnit, PassiveUnit, ReleasePattern, Periodic, Requested, CallTarget, Plain}
use Rattle.machine.specs.Systems.{Protected, Request, Unknown, library_by, object_by, thread_by, system, op_named, plain_by, protected_by}
use Rattle.machine.specs.Systems.{request_if, request_by, object_or, library_or, callee}
use Rattle.law_lists.proofs.Shared.Lists.{made-at, places-differ}
use Rattle.law_lists.proofs.Shared.Facts.{first-where}
use Rattle.std.proofs.lemmas.Bool.{true≢false}

-- the unit of a library, of an object and of a task
pub record IsLibraryOf (p : Program) (k : ℕ) (u : Unit) (l : PassiveUnit) : Type 0 where
  pub stands : slice_get p.units k ≡ Some u
  pub name : u.name ≡ l.name
  pub form : u.form ≡ Passive l.ops

pub record IsObjectOf (p : Program) (k : ℕ) (u : Unit) (g : ProtectedUnit) : Type 0 where
  pub stands : slice_get p.units k ≡ Some u
  pub name : u.name ≡ g.name
  pub unit : g.unit ≡ k
  pub form : u.form ≡ Shared g.ceiling g.vars g.ops

-- a task's form
abbrev pub thread_form : TaskUnit → ReleasePattern → Form → Type 0
thread_form t (Periodic offset period) form = form ≡ Cyclic t.priority offset period t.vars t.block
thread_form t (Requested op ceiling separation jitter external) form = form ≡ Sporadic t.priority ceiling op separation jitter external t.vars t.block

pub record IsTaskOf (p : Program) (k : ℕ) (u : Unit) (t : TaskUnit) : Type 0 where
  pub stands : slice_get p.units k ≡ Some u
  pub name : u.name ≡ t.name
  pub unit : t.unit ≡ k
  pub form : thread_form t t.timing u.form

library-is : (k : ℕ) (name : Name) (form : Form) (l : PassiveUnit) → library_by k name form ≡ Some l → (name ≡ l.name) × (form ≡ Passive l.ops)
library-is k name (Passive ops) l e =
    let same = same_Some (record { unit = k; name = name; ops = ops }) l e in (ap (λ x. x.name) same, ap (λ x. Passive x.ops) same)
library-is k name (Shared ceiling vars ops) l e = absurd (none-some l e)
library-is k name (Cyclic priority offset period vars block) l e = absurd (none-some l e)
library-is k name (Sporadic priority ceiling op separation jitter external vars block) l e = absurd (none-some l e)

object-is : (k : ℕ) (name : Name) (form : Form) (g : ProtectedUnit) → object_by k name form ≡ Some g
    → (name ≡ g.name) × (g.unit ≡ k) × (form ≡ Shared g.ceiling g.vars g.ops)
object-is k name (Passive ops) g e = absurd (none-some g e)
object-is k name (Shared ceiling vars ops) g e =
    let same = same_Some (record { unit = k; name = name; ceiling = ceiling; vars = vars; ops = ops }) g e in
    (ap (λ x. x.name) same, sym (ap (λ x. x.unit) same), ap (λ x. Shared x.ceiling x.vars x.ops) same)
object-is k name (Cyclic priority offset period vars block) g e = absurd (none-some g e)
object-is k name (Sporadic priority ceiling op separation jitter external vars block) g e = absurd (none-some g e)

pub thread-is : (ds : List ℕ) (k : ℕ) (name : Name) (form : Form) (t : TaskUnit) → thread_by ds k name form ≡ Some t
    → (name ≡ t.name) × (t.unit ≡ k) × thread_form t t.timing form
thread-is ds k name (Passive ops) t e = absurd (none-some t e)
thread-is ds k name (Shared ceiling vars ops) t e = absurd (none-some t e)
thread-is ds k name (Cyclic priority offset period vars block) t e =
    let same = same_Some (record {
      unit = k;
      name = name;
      priority = priority;
      timing = Periodic offset period;
      vars = vars;
      block = block;
      durations = ds;
    }) t e in
    (ap (λ x. x.name) same, sym (ap (λ x. x.unit) same), subst (λ x. thread_form x x.timing (Cyclic priority offset period vars block)) same refl)
thread-is ds k name (Sporadic priority ceiling op separation jitter external vars block) t e =
    let same = same_Some (record {
      unit = k;
      name = name;
      priority = priority;
      timing = Requested op ceiling separation jitter external;
      vars = vars;
      block = block;
      durations = ds;
    }) t e in (
      ap (λ x. x.name) same,
      sym (ap (λ x. x.unit) same),
      subst (λ x. thread_form x x.timing
          (Sporadic priority ceiling op separation jitter external vars block)) same refl,
    )

module _ (p : Program) (a : Arrivals) where
  pub library-at : (i : ℕ) (l : PassiveUnit) → slice_get (system p a).libraries i ≡ Some l → (k : ℕ) × (u : Unit) × IsLibraryOf p k u l
  library-at i l e =
      let found = made-at (λ (u : ℕ × Unit). library_by u.0 u.1.name u.1.form) 0 p.units i l e in
      let is = library-is (0 + found.0) found.1.name found.1.form l found.3 in
      (found.0, found.1, record { stands = found.2; name = is.0; form = is.1 })

  pub object-at : (i : ℕ) (g : ProtectedUnit) → slice_get (system p a).objects i ≡ Some g → (k : ℕ) × (u : Unit) × IsObjectOf p k u g
  object-at i g e =
      let found = made-at (λ (u : ℕ × Unit). object_by u.0 u.1.name u.1.form) 0 p.units i g e in
      let is = object-is (0 + found.0) found.1.name found.1.form g found.3 in (
        found.0,
        found.1,
        record {
          stands = found.2;
          name = is.0;
          unit = is.1 ∙ (let none : 0 + found.0 ≡ found.0 = omega arith in none);
          form = is.2;
        },
      )

  pub thread-at : (i : ℕ) (t : TaskUnit) → slice_get (system p a).threads i ≡ Some t → (k : ℕ) × (u : Unit) × IsTaskOf p k u t
  thread-at i t e =
      let found = made-at (λ (u : ℕ × Unit). thread_by (durations a u.0) u.0 u.1.name u.1.form) 0 p.units i t e in
      let is = thread-is (durations a (0 + found.0)) (0 + found.0) found.1.name found.1.form t found.3 in (
        found.0,
        found.1,
        record {
          stands = found.2;
          name = is.0;
          unit = is.1 ∙ (let none : 0 + found.0 ≡ found.0 = omega arith in none);
          form = is.2;
        },
      )

  -- objects and tasks of different places have different units
  pub objects-differ : (i j : ℕ) (g h : ProtectedUnit) → slice_get (system p a).objects i ≡ Some g → slice_get (system p a).objects j ≡ Some h
      → g.unit ≡ h.unit → i ≡ j
  objects-differ i j g h at at' same =
      places-differ (λ (u : ℕ × Unit). object_by u.0 u.1.name u.1.form) (λ x. x.unit) (λ k u x e. (object-is k u.name u.form x e).1) 0 p.units i j g h
      at at' same

  pub threads-differ : (i j : ℕ) (t u : TaskUnit) → slice_get (system p a).threads i ≡ Some t → slice_get (system p a).threads j ≡ Some u
      → t.unit ≡ u.unit → i ≡ j
  threads-differ i j t u at at' same =
      places-differ (λ (x : ℕ × Unit). thread_by (durations a x.0) x.0 x.1.name x.1.form) (λ x. x.unit)
      (λ k x z e. (thread-is (durations a k) k x.name x.form z e).1) 0 p.units i j t u at at' same

-- what a call leads to
pub record LeadsToPlain (y : System) (unit op : Name) (o : Operation) : Type 0 where
  pub place : ℕ
  pub library : PassiveUnit
  pub stands : slice_get y.libraries place ≡ Some library
  pub named : same_name library.name unit ≡ true
  pub at : ℕ
  pub holds : slice_get library.ops at ≡ Some o
  pub called : same_name o.sig.name op ≡ true

pub record LeadsToObject (y : System) (unit op : Name) (object j : ℕ) (g : ProtectedUnit) (o : Operation) : Type 0 where
  pub stands : slice_get y.objects object ≡ Some g
  pub named : same_name g.name unit ≡ true
  pub holds : slice_get g.ops j ≡ Some o
  pub called : same_name o.sig.name op ≡ true
  pub first : op_named op g.ops ≡ Some (j, o)

-- the request of a task of this timing
abbrev pub IsAskedBy : Name → ReleasePattern → Type 0
IsAskedBy op (Periodic offset period) = ⊥
IsAskedBy op (Requested sig ceiling separation jitter external) = same_name sig.name op ≡ true

pub record LeadsToTask (y : System) (unit op : Name) (task : ℕ) : Type 0 where
  pub thread : TaskUnit
  pub stands : slice_get y.threads task ≡ Some thread
  pub named : same_name thread.name unit ≡ true
  pub asked : IsAskedBy op thread.timing

-- all that a call can lead to
abbrev pub LeadsTo : System → Name → Name → CallTarget → Type 0
LeadsTo y unit op (Plain o) = LeadsToPlain y unit op o
LeadsTo y unit op (Protected object j g o) = LeadsToObject y unit op object j g o
LeadsTo y unit op (Request task) = LeadsToTask y unit op task
LeadsTo y unit op Unknown = ⊤

pub leads-to : (y : System) (unit op : Name) → LeadsTo y unit op (callee y unit op)
leads-to y unit op =
    by (first_where (λ l. same_name l.name unit) y.libraries) refl (first_where (λ x. same_name x.name unit) y.objects) refl
    (first_where (λ t. same_name t.name unit) y.threads) refl
  where
    asked : (t : ℕ × TaskUnit) → slice_get y.threads t.0 ≡ Some t.1 → same_name t.1.name unit ≡ true → (x : ReleasePattern) → t.1.timing ≡ x
        → LeadsTo y unit op (request_if op t.0 x)
    asked t stands named (Periodic offset period) e = tt
    asked t stands named (Requested sig ceiling separation jitter external) e = chosen (same_name sig.name op) refl
      where
        chosen : (b : Bool) → same_name sig.name op ≡ b → LeadsTo y unit op (if b then Request t.0 else Unknown)
        chosen true h = record { thread = t.1; stands = stands; named = named; asked = subst (IsAskedBy op) (sym e) h }
        chosen false h = tt

    guarded : (x : ℕ × ProtectedUnit) → slice_get y.objects x.0 ≡ Some x.1 → same_name x.1.name unit ≡ true
        → (q : Option (ℕ × Operation)) → op_named op x.1.ops ≡ q → LeadsTo y unit op (protected_by x q)
    guarded x stands named None e = tt
    guarded x stands named (Some q) e =
        let found = first-where (λ o. same_name o.sig.name op) x.1.ops q.0 q.1 e in
        record { stands = stands; named = named; holds = found.0; called = found.1; first = e }

    plain : (l : ℕ × PassiveUnit) → slice_get y.libraries l.0 ≡ Some l.1 → same_name l.1.name unit ≡ true
        → (q : Option (ℕ × Operation)) → op_named op l.1.ops ≡ q → LeadsTo y unit op (plain_by q)
    plain l stands named None e = tt
    plain l stands named (Some q) e =
        let found = first-where (λ o. same_name o.sig.name op) l.1.ops q.0 q.1 e in
        record { place = l.0; library = l.1; stands = stands; named = named; at = q.0; holds = found.0; called = found.1 }

    by : (l : Option (ℕ × PassiveUnit)) → first_where (λ z. same_name z.name unit) y.libraries ≡ l
        → (x : Option (ℕ × ProtectedUnit)) → first_where (λ z. same_name z.name unit) y.objects ≡ x
        → (t : Option (ℕ × TaskUnit)) → first_where (λ z. same_name z.name unit) y.threads ≡ t
        → LeadsTo y unit op (library_or op l (object_or op x (request_by op t)))
    by (Some l) e x f t g = let found = first-where (λ z. same_name z.name unit) y.libraries l.0 l.1 e
        in plain l found.0 found.1 (op_named op l.1.ops) refl
    by None e (Some x) f t g = let found = first-where (λ z. same_name z.name unit) y.objects x.0 x.1 f
        in guarded x found.0 found.1 (op_named op x.1.ops) refl
    by None e None f None g = tt
    by None e None f (Some t) g = let found = first-where (λ z. same_name z.name unit) y.threads t.0 t.1 g in asked t found.0 found.1 t.1.timing refl

-- without a library of a name no passive operation is named so
module _ (name : Name) where
  no-passive : (n m : ℕ) (us : List Unit)
      → first_from m (λ l. same_name l.name name) (filter_map (λ (u : ℕ × Unit). library_by u.0 u.1.name u.1.form) (enumerate_from n us)) ≡ None
      → flat_map (λ u. passive_ops u.form) (filter (λ u. same_name u.name name) us) ≡ []
  no-passive n m [] e = refl
  no-passive n m (u ∷ us) e = by u.form refl (same_name u.name name) refl (λ k h. no-passive (n + 1) k us h) e
    where
      skip : (b : Bool) → passive_ops u.form ≡ [] → flat_map (λ v. passive_ops v.form) (filter (λ v. same_name v.name name) us) ≡ []
          → flat_map (λ v. passive_ops v.form) (cond b (u ∷ filter (λ v. same_name v.name name) us) (filter (λ v. same_name v.name name) us)) ≡ []
      skip true none rest = ap (λ os. os ++ flat_map (λ v. passive_ops v.form) (filter (λ v. same_name v.name name) us)) none ∙ rest
      skip false none rest = rest

      by : (form : Form) → u.form ≡ form → (b : Bool) → same_name u.name name ≡ b
          → ((k : ℕ) → first_from k (λ l. same_name l.name name) (filter_map (λ (v : ℕ × Unit). library_by v.0 v.1.name v.1.form)
          (enumerate_from (n + 1) us)) ≡ None
          → flat_map (λ v. passive_ops v.form) (filter (λ v. same_name v.name name) us) ≡ [])
          → first_from m (λ l. same_name l.name name) (cons_option (library_by n u.name form)
          (filter_map (λ (v : ℕ × Unit). library_by v.0 v.1.name v.1.form) (enumerate_from (n + 1) us))) ≡ None
          → flat_map (λ v. passive_ops v.form) (cond b (u ∷ filter (λ v. same_name v.name name) us) (filter (λ v. same_name v.name name) us)) ≡ []
      by (Passive ops) f b g rest e'
          = named b (subst (λ c. (if c then Some (m, l) else first_from (suc m) (λ x. same_name x.name name) others) ≡ None) g e')
        where
          l : PassiveUnit
          l = record { unit = n; name = u.name; ops = ops }

          others : List PassiveUnit
          others = filter_map (λ (v : ℕ × Unit). library_by v.0 v.1.name v.1.form) (enumerate_from (n + 1) us)

          named : (c : Bool) → (if c then Some (m, l) else first_from (suc m) (λ x. same_name x.name name) others) ≡ None
              → flat_map (λ v. passive_ops v.form) (cond c (u ∷ filter (λ v. same_name v.name name) us) (filter (λ v. same_name v.name name) us)) ≡ []
          named true h = absurd (none-some (m, l) (sym h))
          named false h = rest (suc m) h
      by (Shared ceiling vars ops) f b g rest e' = skip b (ap passive_ops f) (rest m e')
      by (Cyclic priority offset period vars block) f b g rest e' = skip b (ap passive_ops f) (rest m e')
      by (Sporadic priority ceiling op' separation jitter external vars block) f b g rest e' = skip b (ap passive_ops f) (rest m e')

-- a call of what has a passive operation leads to a passive operation, or to nothing
abbrev pub IsUnprotected : CallTarget → Type 0
IsUnprotected (Plain o) = ⊤
IsUnprotected (Protected object j g o) = ⊥
IsUnprotected (Request task) = ⊥
IsUnprotected Unknown = ⊤

pub passive-call : (p : Program) (a : Arrivals) (c : OpName) → is_empty (passive_named p c) ≡ false
    → IsUnprotected (callee (system p a) c.object c.op)
passive-call p a c some = by (first_where (λ l. same_name l.name c.object) (system p a).libraries) refl
  where
    plain : (q : Option (ℕ × Operation)) → IsUnprotected (plain_by q)
    plain None = tt
    plain (Some q) = tt

    by : (l : Option (ℕ × PassiveUnit)) → first_where (λ z. same_name z.name c.object) (system p a).libraries ≡ l
        → IsUnprotected (library_or c.op l (object_or c.op (first_where (λ x. same_name x.name c.object) (system p a).objects)
        (request_by c.op (first_where (λ t. same_name t.name c.object) (system p a).threads))))
    by None e =
        let none = no-passive c.object 0 0 p.units e in
        absurd (true≢false (ap (λ os. is_empty (filter (λ (o : Operation). same_name o.sig.name c.op) os)) (sym none) ∙ some))
    by (Some l) e = plain (op_named c.op l.1.ops)

abbrev pub is_free : CallTarget → Bool
is_free (Plain o) = true
is_free (Protected object j g o) = false
is_free (Request task) = false
is_free Unknown = true

pub free-is : (c : CallTarget) → IsUnprotected c → is_free c ≡ true
free-is (Plain o) h = refl
free-is (Protected object j g o) h = absurd h
free-is (Request task) h = absurd h
free-is Unknown h = refl
