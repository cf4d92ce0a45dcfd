-- What calls lead to in a program whose units have names of their own: to the unit of the name.
use Rattle.std.proofs.Common.{◌≡◌, ℕ, zero, suc, ◌+◌, Bool, true, false, ◌&&◌, ◌||◌, List, [], ◌∷◌, ◌++◌, map, take, refl, ap, sym, ◌∙◌, Option}
use Rattle.std.proofs.Common.{Some, None}
use Rattle.std.specs.Prelude.{filter, flat_map, slice_get, if◌then◌else◌, ⊤}
use Rattle.std.specs.List.{list_any}
use Rattle.std.proofs.lemmas.List.Folds.{list_any-append}
use Rattle.std.proofs.lemmas.Option.{same_Some}
use Rattle.std.proofs.lemmas.Bool.{or_parts}
use Rattle.seq_tree.specs.Names.{Name, same_name, is_named}
use Rattle.seq_tree.specs.Lists.{first_from}
use Rattle.seq_tree.specs.Operations.{Operation, Offer, Signature}
use Rattle.seq_tree.specs.declared.tree.OpName.{OpName}
use Rattle.ada_tree.specs.Programs.{Unit, Form, Passive, Shared, Cyclic, Sporadic}
use Rattle.ada_tree.specs.Bodies.{bodies, heads, op_body}
use Rattle.ada_tree.specs.Uses.{is_confined, is_empty, is_shared, passive_ops, shared_ops}
use Rattle.arrivals_tree.specs.declared.arrivals.WorkList.{WorkList}
use Rattle.machine.specs.Systems.{PassiveUnit, ProtectedUnit, TaskUnit, CallTarget, Plain, Protected, Request, Unknown, library_or, object_or}
use Rattle.machine.specs.Systems.{libraries_from, objects_from}
use Rattle.machine.specs.Systems.{op_named, plain_by, protected_by, request_by}
use Rattle.task_runtime.specs.Callable.{is_known, op_by}
use Rattle.task_runtime.specs.Libraries.{handed_threads}
use Rattle.task_runtime.proofs.CallLaws.{no_true, of_name}
use Rattle.seq_tree.proofs.Shared.SameNames.{same-self, same-is}

-- whether a unit of each kind has this name
abbrev library_named : Name → PassiveUnit → Bool
library_named name l = same_name l.name name

abbrev object_named : Name → ProtectedUnit → Bool
object_named name g = same_name g.name name

abbrev task_named : Name → TaskUnit → Bool
task_named name t = same_name t.name name

-- units whose names differ
abbrev pub AreApart : List Unit → Type 0
AreApart [] = ⊤
AreApart (u ∷ us) = (is_named (map (λ v. v.name) us) u.name ≡ false) × AreApart us

apart_all : (name : Name) (us : List Unit) → ((i : ℕ) (v : Unit) → slice_get us i ≡ Some v → same_name name v.name ≡ false)
    → is_named (map (λ v. v.name) us) name ≡ false
apart_all name [] h = refl
apart_all name (v ∷ us) h = by_test (same_name v.name name) refl (apart_all name us (λ i w at. h (suc i) w at)) where
  by_test : (b : Bool) → same_name v.name name ≡ b → is_named (map (λ w. w.name) us) name ≡ false
      → (same_name v.name name || is_named (map (λ w. w.name) us) name) ≡ false
  by_test true e more =
      let other : same_name name v.name ≡ false = h 0 v refl in
      let same : same_name name v.name ≡ true = ap (λ x. same_name x v.name) (sym (same-is v.name name e)) ∙ same-self v.name in
      absurd (no_true (sym same ∙ other))
  by_test false e more = rw e more

pub apart : (us : List Unit) → ((i : ℕ) (u : Unit) → slice_get us i ≡ Some u → is_named (map (λ v. v.name) (take i us)) u.name ≡ false) → AreApart us
apart [] h = tt
apart (u ∷ us) h = (
  apart_all u.name us (λ i v at. (or_parts (same_name u.name v.name) _ (h (suc i) v at)).0),
  apart us (λ i v at.
      (or_parts (same_name u.name v.name) _ (h (suc i) v at)).1),
)

named_at : (us : List Unit) (i : ℕ) (u : Unit) → slice_get us i ≡ Some u → is_named (map (λ v. v.name) us) u.name ≡ true
named_at [] i u at = absurd (cc)
named_at (v ∷ us) zero u at = let same : v ≡ u = same_Some v u at
    in ap (λ w. same_name w.name u.name || is_named (map (λ x. x.name) us) u.name) same ∙ ap (λ b. b || is_named (map (λ x. x.name) us) u.name)
    (same-self u.name)
named_at (v ∷ us) (suc i) u at = more (same_name v.name u.name) (named_at us i u at) where
  more : (b : Bool) → is_named (map (λ x. x.name) us) u.name ≡ true → (b || is_named (map (λ x. x.name) us) u.name) ≡ true
  more true h = refl
  more false h = h

-- what the call of an operation of a unit leads to, by what the unit is
abbrev pub unit_target : ℕ → ℕ → ℕ → Name → Form → Name → CallTarget
unit_target object task n name (Passive ops) op = plain_by (op_named op ops)
unit_target object task n name (Shared ceiling vars ops) op
    = protected_by (object, record { unit = n; name = name; ceiling = ceiling; vars = vars; ops = ops }) (op_named op ops)
unit_target object task n name (Cyclic priority offset period vars block) op = Unknown
unit_target object task n name (Sporadic priority ceiling sig separation jitter external vars block) op
    = if same_name sig.name op then Request task else Unknown

module _ (work : List WorkList) where
  -- what a call leads to among units from a number on
  abbrev pub target_from : ℕ → ℕ → ℕ → ℕ → List Unit → OpName → CallTarget
  target_from n a b d us c = library_or c.op (first_from a (library_named c.object) (libraries_from n us))
      (object_or c.op (first_from b (object_named c.object) (objects_from n us))
      (request_by c.op (first_from d (task_named c.object) (handed_threads work n us))))

  no_library : (w : Name) (n a : ℕ) (us : List Unit) → is_named (map (λ v. v.name) us) w ≡ false
      → first_from a (library_named w) (libraries_from n us) ≡ None
  no_library w n a [] h = refl
  no_library w n a (u ∷ us) h =
      let both = or_parts (same_name u.name w) (is_named (map (λ v. v.name) us) w) h in
      by_form u.name u.form both.0 (λ k. no_library w (n + 1) k us both.1)
    where
      by_form : (name : Name) (f : Form) → same_name name w ≡ false → ((k : ℕ) → first_from k (library_named w) (libraries_from (n + 1) us) ≡ None)
          → first_from a (library_named w) (libraries_from n (record { name = name; form = f } ∷ us)) ≡ None
      by_form name (Passive ops) e more = rw e (more (suc a))
      by_form name (Shared ceiling vars ops) e more = more a
      by_form name (Cyclic priority offset period vars block) e more = more a
      by_form name (Sporadic priority ceiling sig separation jitter external vars block) e more = more a

  no_object : (w : Name) (n a : ℕ) (us : List Unit) → is_named (map (λ v. v.name) us) w ≡ false
      → first_from a (object_named w) (objects_from n us) ≡ None
  no_object w n a [] h = refl
  no_object w n a (u ∷ us) h =
      let both = or_parts (same_name u.name w) (is_named (map (λ v. v.name) us) w) h in
      by_form u.name u.form both.0 (λ k. no_object w (n + 1) k us both.1)
    where
      by_form : (name : Name) (f : Form) → same_name name w ≡ false → ((k : ℕ) → first_from k (object_named w) (objects_from (n + 1) us) ≡ None)
          → first_from a (object_named w) (objects_from n (record { name = name; form = f } ∷ us)) ≡ None
      by_form name (Passive ops) e more = more a
      by_form name (Shared ceiling vars ops) e more = rw e (more (suc a))
      by_form name (Cyclic priority offset period vars block) e more = more a
      by_form name (Sporadic priority ceiling sig separation jitter external vars block) e more = more a

  -- a call of the first unit, where no other has its name
  here_unit : (n a b d : ℕ) (us : List Unit) (c : OpName) (name : Name) (f : Form) → same_name name c.object ≡ true
      → is_named (map (λ v. v.name) us) c.object ≡ false
      → target_from n a b d (record { name = name; form = f } ∷ us) c ≡ unit_target b d n name f c.op
  here_unit n a b d us c name (Passive ops) e far = rw e refl
  here_unit n a b d us c name (Shared ceiling vars ops) e far = rw (e, no_library c.object (n + 1) a us far) refl
  here_unit n a b d us c name (Cyclic priority offset period vars block) e far
      = rw (e, no_library c.object (n + 1) a us far, no_object c.object (n + 1) b us far) refl
  here_unit n a b d us c name (Sporadic priority ceiling sig separation jitter external vars block) e far
      = rw (e, no_library c.object (n + 1) a us far, no_object c.object (n + 1) b us far) refl

  -- a unit of another name is passed over
  past_unit : (n a b d : ℕ) (us : List Unit) (c : OpName) (name : Name) (f : Form) → same_name name c.object ≡ false
      → (a' : ℕ) × (b' : ℕ) × (d' : ℕ) × (target_from n a b d (record { name = name; form = f } ∷ us) c ≡ target_from (n + 1) a' b' d' us c)
  past_unit n a b d us c name (Passive ops) e = (suc a, b, d, rw e refl)
  past_unit n a b d us c name (Shared ceiling vars ops) e = (a, suc b, d, rw e refl)
  past_unit n a b d us c name (Cyclic priority offset period vars block) e = (a, b, suc d, rw e refl)
  past_unit n a b d us c name (Sporadic priority ceiling sig separation jitter external vars block) e = (a, b, suc d, rw e refl)

  -- a call leads to the unit of its name
  pub at-unit : (us : List Unit) (n a b d i : ℕ) (u : Unit) (c : OpName) → AreApart us → slice_get us i ≡ Some u → same_name u.name c.object ≡ true
      → (object : ℕ) × (task : ℕ) × (place : ℕ) × (target_from n a b d us c ≡ unit_target object task place u.name u.form c.op)
  at-unit [] n a b d i u c far at e = absurd (cc)
  at-unit (v ∷ us) n a b d zero u c far at e =
      let same : v ≡ u = same_Some v u at in
      let e' : same_name v.name c.object ≡ true = ap (λ w. same_name w.name c.object) same ∙ e in
      let others : is_named (map (λ w. w.name) us) c.object ≡ false
      = ap (is_named (map (λ w. w.name) us)) (sym (same-is v.name c.object e')) ∙ far.0 in
      (b, d, n, here_unit n a b d us c v.name v.form e' others ∙ ap (λ w. unit_target b d n w.name w.form c.op) same)
  at-unit (v ∷ us) n a b d (suc i) u c far at e =
      let other : same_name v.name c.object ≡ false = differs (same_name v.name c.object) refl in
      let past = past_unit n a b d us c v.name v.form other in
      let more = at-unit us (n + 1) past.0 past.1 past.2 i u c far.1 at e in
      (more.0, more.1, more.2, past.3 ∙ more.3)
    where
      differs : (t : Bool) → same_name v.name c.object ≡ t → same_name v.name c.object ≡ false
      differs true k =
          let one : v.name ≡ u.name = same-is v.name c.object k ∙ sym (same-is u.name c.object e) in
          absurd (no_true (sym (named_at us i u at) ∙ ap (is_named (map (λ w. w.name) us)) (sym one) ∙ far.0))
      differs false k = k

  -- a call that leads somewhere has a unit of its name
  pub some-unit : (us : List Unit) (n a b d : ℕ) (c : OpName) → is_known (target_from n a b d us c) ≡ true
      → (i : ℕ) × (u : Unit) × (slice_get us i ≡ Some u) × (same_name u.name c.object ≡ true)
  some-unit [] n a b d c h = absurd (no_true (sym h))
  some-unit (v ∷ us) n a b d c h = by_test (same_name v.name c.object) refl (λ a' b' d' k. some-unit us (n + 1) a' b' d' c k) where
    by_test : (t : Bool) → same_name v.name c.object ≡ t
        → ((a' b' d' : ℕ) → is_known (target_from (n + 1) a' b' d' us c) ≡ true → (i : ℕ) × (u : Unit) × (slice_get us i ≡ Some u)
        × (same_name u.name c.object ≡ true))
        → (i : ℕ) × (u : Unit) × (slice_get (v ∷ us) i ≡ Some u) × (same_name u.name c.object ≡ true)
    by_test true e more = (0, v, refl, e)
    by_test false e more =
        let past = past_unit n a b d us c v.name v.form e in
        let rest = more past.0 past.1 past.2 (sym (ap is_known past.3) ∙ h) in
        (suc rest.0, rest.1, rest.2, rest.3)

-- the operations of a unit that have bodies
abbrev pub ops_of : Form → List Operation
ops_of (Passive ops) = ops
ops_of (Shared ceiling vars ops) = ops
ops_of (Cyclic priority offset period vars block) = []
ops_of (Sporadic priority ceiling sig separation jitter external vars block) = []

-- an operation that is found has the name that is looked for
pub op-found : (op : Name) (n : ℕ) (os : List Operation) (x : ℕ × Operation) → first_from n (of_name op) os ≡ Some x
    → (i : ℕ) × (slice_get os i ≡ Some x.1) × (of_name op x.1 ≡ true)
op-found op n [] x e = absurd (cc)
op-found op n (q ∷ os) x e = by_test (of_name op q) refl (op-found op (suc n) os x) e where
  by_test : (b : Bool) → of_name op q ≡ b → (first_from (suc n) (of_name op) os ≡ Some x → (i : ℕ) × (slice_get os i ≡ Some x.1)
      × (of_name op x.1 ≡ true))
      → first_from n (of_name op) (q ∷ os) ≡ Some x → (i : ℕ) × (slice_get (q ∷ os) i ≡ Some x.1) × (of_name op x.1 ≡ true)
  by_test true t rest k =
      let k' : Some (n, q) ≡ Some x = rw t at k in
      let same : q ≡ x.1 = ap (λ (y : ℕ × Operation). y.1) (same_Some (n, q) x k') in
      (0, ap Some same, ap (of_name op) (sym same) ∙ t)
  by_test false t rest k =
      let k' : first_from (suc n) (of_name op) os ≡ Some x = rw t at k in
      let more = rest k' in (suc more.0, more.1, more.2)

-- a body that a call begins is that of an operation of the unit
pub body-of : (object task n : ℕ) (name : Name) (f : Form) (op : Name) (o : Operation) → op_by (unit_target object task n name f op) ≡ Some o
    → (i : ℕ) × (slice_get (ops_of f) i ≡ Some o) × (of_name op o ≡ true)
body-of object task n name (Passive ops) op o e = by_op (op_named op ops) refl e where
  by_op : (x : Option (ℕ × Operation)) → op_named op ops ≡ x → op_by (plain_by x) ≡ Some o
      → (i : ℕ) × (slice_get ops i ≡ Some o) × (of_name op o ≡ true)
  by_op None k h = absurd (cc)
  by_op (Some x) k h =
      let here = op-found op 0 ops x k in
      let same : x.1 ≡ o = same_Some x.1 o h in
      (here.0, here.1 ∙ ap Some same, ap (of_name op) (sym same) ∙ here.2)
body-of object task n name (Shared ceiling vars ops) op o e = by_op (op_named op ops) refl e where
  by_op : (x : Option (ℕ × Operation)) → op_named op ops ≡ x
      → op_by (protected_by (object, record { unit = n; name = name; ceiling = ceiling; vars = vars; ops = ops }) x) ≡ Some o
      → (i : ℕ) × (slice_get ops i ≡ Some o) × (of_name op o ≡ true)
  by_op None k h = absurd (cc)
  by_op (Some x) k h =
      let here = op-found op 0 ops x k in
      let same : x.1 ≡ o = same_Some x.1 o h in
      (here.0, here.1 ∙ ap Some same, ap (of_name op) (sym same) ∙ here.2)
body-of object task n name (Cyclic priority offset period vars block) op o e = absurd (cc)
body-of object task n name (Sporadic priority ceiling sig separation jitter external vars block) op o e = by_test (same_name sig.name op) e where
  by_test : (b : Bool) → op_by (if b then Request task else Unknown) ≡ Some o → (i : ℕ) × (slice_get [] i ≡ Some o) × (of_name op o ≡ true)
  by_test true h = absurd (cc)
  by_test false h = absurd (cc)

-- a unit that has such operations has them as its bodies and heads
pub bodies-of : (f : Form) (i : ℕ) (o : Operation) → slice_get (ops_of f) i ≡ Some o → bodies f ≡ map op_body (ops_of f)
bodies-of (Passive ops) i o at = refl
bodies-of (Shared ceiling vars ops) i o at = refl
bodies-of (Cyclic priority offset period vars block) i o at = absurd (cc)
bodies-of (Sporadic priority ceiling sig separation jitter external vars block) i o at = absurd (cc)

pub heads-of : (f : Form) (i : ℕ) (o : Operation) → slice_get (ops_of f) i ≡ Some o → heads f ≡ map (λ q. q.sig) (ops_of f)
heads-of (Passive ops) i o at = refl
heads-of (Shared ceiling vars ops) i o at = refl
heads-of (Cyclic priority offset period vars block) i o at = absurd (cc)
heads-of (Sporadic priority ceiling sig separation jitter external vars block) i o at = absurd (cc)

-- an operation that a unit offers is known
some_op : (op : Name) (os : List Operation) (n : ℕ) → list_any (λ h. same_name h.name op) (map (λ o. o.sig) os) ≡ true
    → (x : ℕ × Operation) × (first_from n (of_name op) os ≡ Some x)
some_op op [] n h = absurd (no_true (sym h))
some_op op (o ∷ os) n h = by_test (same_name o.sig.name op) refl (some_op op os (suc n)) h where
  by_test : (b : Bool) → same_name o.sig.name op ≡ b → (list_any (λ h. same_name h.name op) (map (λ q. q.sig) os) ≡ true
      → (x : ℕ × Operation) × (first_from (suc n) (of_name op) os ≡ Some x))
      → (same_name o.sig.name op || list_any (λ h. same_name h.name op) (map (λ q. q.sig) os)) ≡ true
      → (x : ℕ × Operation) × (first_from n (of_name op) (o ∷ os) ≡ Some x)
  by_test true e rest k = ((n, o), rw e refl)
  by_test false e rest k =
      let k' : list_any (λ h. same_name h.name op) (map (λ q. q.sig) os) ≡ true = rw e at k in
      let more = rest k' in (more.0, rw e more.1)

pub head-known : (object task n : ℕ) (name : Name) (f : Form) (op : Name) → list_any (λ h. same_name h.name op) (heads f) ≡ true
    → is_known (unit_target object task n name f op) ≡ true
head-known object task n name (Passive ops) op h = let x = some_op op ops 0 h in ap (λ y. is_known (plain_by y)) x.1
head-known object task n name (Shared ceiling vars ops) op h =
    let x = some_op op ops 0 h in ap
    (λ y. is_known (protected_by (object, record { unit = n; name = name; ceiling = ceiling; vars = vars; ops = ops }) y)) x.1
head-known object task n name (Cyclic priority offset period vars block) op h = absurd (no_true (sym h))
head-known object task n name (Sporadic priority ceiling sig separation jitter external vars block) op h
    = by_test (same_name sig.name op) refl h where
      by_test : (b : Bool) → same_name sig.name op ≡ b → (same_name sig.name op || false) ≡ true
          → is_known (if same_name sig.name op then Request task else Unknown) ≡ true
      by_test true e k = rw e refl
      by_test false e k = let k' : false ≡ true = rw e at k in absurd (no_true (sym k'))

-- what is offered is offered by a unit of the name
abbrev pub offers_it : OpName → Offer → Bool
offers_it c o = same_name o.object c.object && same_name o.sig.name c.op

abbrev pub offered : List Unit → List Offer
offered us = flat_map (λ u. map (λ h. record { object = u.name; sig = h }) (heads u.form)) us

offered_by : (name : Name) (hs : List Signature) (c : OpName) → list_any (offers_it c) (map (λ h. record { object = name; sig = h }) hs) ≡ true
    → (same_name name c.object ≡ true) × (list_any (λ h. same_name h.name c.op) hs ≡ true)
offered_by name [] c h = absurd (no_true (sym h))
offered_by name (s ∷ hs) c h = by_tests (same_name name c.object) (same_name s.name c.op) refl refl (offered_by name hs c) h where
  by_tests : (a b : Bool) → same_name name c.object ≡ a → same_name s.name c.op ≡ b
      → (list_any (offers_it c) (map (λ k. record { object = name; sig = k }) hs) ≡ true → (same_name name c.object ≡ true)
      × (list_any (λ k. same_name k.name c.op) hs ≡ true))
      → (offers_it c (record { object = name; sig = s }) || list_any (offers_it c) (map (λ k. record { object = name; sig = k }) hs)) ≡ true
      → (same_name name c.object ≡ true) × ((same_name s.name c.op || list_any (λ k. same_name k.name c.op) hs) ≡ true)
  by_tests true true e f rest k = (e, rw f refl)
  by_tests true false e f rest k =
      let k' : list_any (offers_it c) (map (λ g. record { object = name; sig = g }) hs) ≡ true = rw (e, f) at k in
      let more = rest k' in (more.0, rw f more.1)
  by_tests false b e f rest k =
      let k' : list_any (offers_it c) (map (λ g. record { object = name; sig = g }) hs) ≡ true = rw e at k in
      absurd (no_true (sym (rest k').0 ∙ e))

pub offered-unit : (us : List Unit) (c : OpName) → list_any (offers_it c) (offered us) ≡ true
    → (i : ℕ) × (u : Unit) × (slice_get us i ≡ Some u) × (same_name u.name c.object ≡ true)
    × (list_any (λ h. same_name h.name c.op) (heads u.form) ≡ true)
offered-unit [] c h = absurd (no_true (sym h))
offered-unit (u ∷ us) c h =
    by_test (list_any (offers_it c) (map (λ s. record { object = u.name; sig = s }) (heads u.form))) refl (offered-unit us c)
    (sym (list_any-append (offers_it c) (map (λ s. record { object = u.name; sig = s }) (heads u.form)) (offered us)) ∙ h)
  where
    by_test : (b : Bool) → list_any (offers_it c) (map (λ s. record { object = u.name; sig = s }) (heads u.form)) ≡ b
        → (list_any (offers_it c) (offered us) ≡ true → (i : ℕ) × (v : Unit) × (slice_get us i ≡ Some v) × (same_name v.name c.object ≡ true)
        × (list_any (λ h. same_name h.name c.op) (heads v.form) ≡ true))
        → (list_any (offers_it c) (map (λ s. record { object = u.name; sig = s }) (heads u.form)) || list_any (offers_it c) (offered us)) ≡ true
        → (i : ℕ) × (v : Unit) × (slice_get (u ∷ us) i ≡ Some v) × (same_name v.name c.object ≡ true)
        × (list_any (λ h. same_name h.name c.op) (heads v.form) ≡ true)
    by_test true e rest k = let both = offered_by u.name (heads u.form) c e in (0, u, refl, both.0, both.1)
    by_test false e rest k =
        let k' : list_any (offers_it c) (offered us) ≡ true = rw e at k in
        let more = rest k' in (suc more.0, more.1, more.2, more.3, more.4)

-- whether a call leads to a passive operation, or to a protected one
abbrev pub is_plain : CallTarget → Bool
is_plain (Plain o) = true
is_plain (Protected object op g o) = false
is_plain (Request task) = false
is_plain Unknown = false

abbrev pub is_protected : CallTarget → Bool
is_protected (Plain o) = false
is_protected (Protected object op g o) = true
is_protected (Request task) = false
is_protected Unknown = false

-- a passive operation of a name is one of the passive unit of that name
some_passive : (op : Name) (os : List Operation) (n : ℕ) → is_empty (filter (of_name op) os) ≡ false
    → (x : ℕ × Operation) × (first_from n (of_name op) os ≡ Some x)
some_passive op [] n h = absurd (no_true h)
some_passive op (o ∷ os) n h = by_test (of_name op o) refl (some_passive op os (suc n)) h where
  by_test : (b : Bool) → of_name op o ≡ b → (is_empty (filter (of_name op) os) ≡ false → (x : ℕ × Operation)
      × (first_from (suc n) (of_name op) os ≡ Some x))
      → is_empty (filter (of_name op) (o ∷ os)) ≡ false → (x : ℕ × Operation) × (first_from n (of_name op) (o ∷ os) ≡ Some x)
  by_test true e rest k = ((n, o), rw e refl)
  by_test false e rest k =
      let k' : is_empty (filter (of_name op) os) ≡ false = rw e at k in
      let found = rest k' in (found.0, rw e found.1)

pub plain-known : (object task n : ℕ) (name : Name) (f : Form) (op : Name) → is_empty (filter (of_name op) (passive_ops f)) ≡ false
    → is_plain (unit_target object task n name f op) ≡ true
plain-known object task n name (Passive ops) op h = let x = some_passive op ops 0 h in ap (λ y. is_plain (plain_by y)) x.1
plain-known object task n name (Shared ceiling vars ops) op h = absurd (no_true h)
plain-known object task n name (Cyclic priority offset period vars block) op h = absurd (no_true h)
plain-known object task n name (Sporadic priority ceiling sig separation jitter external vars block) op h = absurd (no_true h)

-- the unit of a passive operation of a name
rest_empty : (t : Operation → Bool) (xs ys : List Operation) → is_empty (filter t (xs ++ ys)) ≡ false → is_empty (filter t xs) ≡ true
    → is_empty (filter t ys) ≡ false
rest_empty t [] ys h k = h
rest_empty t (x ∷ xs) ys h k = by_test (t x) refl (rest_empty t xs ys) h k where
  by_test : (b : Bool) → t x ≡ b → (is_empty (filter t (xs ++ ys)) ≡ false → is_empty (filter t xs) ≡ true → is_empty (filter t ys) ≡ false)
      → is_empty (filter t (x ∷ (xs ++ ys))) ≡ false → is_empty (filter t (x ∷ xs)) ≡ true → is_empty (filter t ys) ≡ false
  by_test true e rest a b = let b' : false ≡ true = rw e at b in absurd (no_true (sym b'))
  by_test false e rest a b =
      let a' : is_empty (filter t (xs ++ ys)) ≡ false = rw e at a in
      let b' : is_empty (filter t xs) ≡ true = rw e at b in
      rest a' b'

-- the operations of units of a name
abbrev pub ops_under : Name → List Unit → List Operation
ops_under object us = flat_map (λ u. passive_ops u.form) (filter (λ u. same_name u.name object) us)

pub passive-unit : (us : List Unit) (c : OpName) → is_empty (filter (of_name c.op) (ops_under c.object us)) ≡ false
    → (i : ℕ) × (u : Unit) × (slice_get us i ≡ Some u) × (same_name u.name c.object ≡ true)
    × (is_empty (filter (of_name c.op) (passive_ops u.form)) ≡ false)
passive-unit [] c h = absurd (no_true h)
passive-unit (u ∷ us) c h = by_tests (same_name u.name c.object) (is_empty (filter (of_name c.op) (passive_ops u.form))) refl refl
    (passive-unit us c) h where
      by_tests : (a b : Bool) → same_name u.name c.object ≡ a → is_empty (filter (of_name c.op) (passive_ops u.form)) ≡ b
          → (is_empty (filter (of_name c.op) (ops_under c.object us)) ≡ false
          → (i : ℕ) × (v : Unit) × (slice_get us i ≡ Some v) × (same_name v.name c.object ≡ true)
          × (is_empty (filter (of_name c.op) (passive_ops v.form)) ≡ false))
          → is_empty (filter (of_name c.op) (ops_under c.object (u ∷ us))) ≡ false
          → (i : ℕ) × (v : Unit) × (slice_get (u ∷ us) i ≡ Some v) × (same_name v.name c.object ≡ true)
          × (is_empty (filter (of_name c.op) (passive_ops v.form)) ≡ false)
      by_tests true false e f rest k = (0, u, refl, e, f)
      by_tests true true e f rest k =
          let k' : is_empty (filter (of_name c.op) (passive_ops u.form ++ ops_under c.object us)) ≡ false = rw e at k in
          let more = rest (rest_empty (of_name c.op) (passive_ops u.form) (ops_under c.object us) k' f) in
          (suc more.0, more.1, more.2, more.3, more.4)
      by_tests false b e f rest k =
          let k' : is_empty (filter (of_name c.op) (ops_under c.object us)) ≡ false = rw e at k in
          let more = rest k' in
          (suc more.0, more.1, more.2, more.3, more.4)

-- what a unit is, by what its operations are
pub plain-form : (object task n : ℕ) (name : Name) (f : Form) (op : Name) → is_plain (unit_target object task n name f op) ≡ true
    → (is_confined f ≡ true) × (ops_of f ≡ passive_ops f)
plain-form object task n name (Passive ops) op h = (refl, refl)
plain-form object task n name (Shared ceiling vars ops) op h = by_op (op_named op ops) h where
  by_op : (x : Option (ℕ × Operation))
      → is_plain (protected_by (object, record { unit = n; name = name; ceiling = ceiling; vars = vars; ops = ops }) x) ≡ true
      → (false ≡ true) × (ops ≡ [])
  by_op None k = absurd (no_true (sym k))
  by_op (Some x) k = absurd (no_true (sym k))
plain-form object task n name (Cyclic priority offset period vars block) op h = absurd (no_true (sym h))
plain-form object task n name (Sporadic priority ceiling sig separation jitter external vars block) op h
    = absurd (by_test (same_name sig.name op) h) where
      by_test : (b : Bool) → is_plain (if b then Request task else Unknown) ≡ true → ⊥
      by_test true k = no_true (sym k)
      by_test false k = no_true (sym k)

pub shared-form : (object task n : ℕ) (name : Name) (f : Form) (op : Name) → is_protected (unit_target object task n name f op) ≡ true
    → (is_shared f ≡ true) × (ops_of f ≡ shared_ops f)
shared-form object task n name (Passive ops) op h = by_op (op_named op ops) h where
  by_op : (x : Option (ℕ × Operation)) → is_protected (plain_by x) ≡ true → (false ≡ true) × (ops ≡ [])
  by_op None k = absurd (no_true (sym k))
  by_op (Some x) k = absurd (no_true (sym k))
shared-form object task n name (Shared ceiling vars ops) op h = (refl, refl)
shared-form object task n name (Cyclic priority offset period vars block) op h = absurd (no_true (sym h))
shared-form object task n name (Sporadic priority ceiling sig separation jitter external vars block) op h
    = absurd (by_test (same_name sig.name op) h) where
      by_test : (b : Bool) → is_protected (if b then Request task else Unknown) ≡ true → ⊥
      by_test true k = no_true (sym k)
      by_test false k = no_true (sym k)
