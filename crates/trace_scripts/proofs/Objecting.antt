-- An operation of the object at a place, and one state that has changed.
use Rattle.std.proofs.Common.{◌≡◌, ℕ, zero, suc, ◌<◌, List, [], ◌∷◌, map, length, Option, Some, None, refl, sym, ap, subst, ◌∙◌, get_or, set, arith}
use Rattle.std.specs.Prelude.{slice_get, option_map, unwrap_or, option_and_then}
use Rattle.std.proofs.lemmas.Option.{none-some, same_Some}
use Rattle.seq_tree.specs.Lists.{Each, change}
use Rattle.seq_tree.specs.Names.{Name}
use Rattle.seq_tree.specs.Operations.{Operation, Signature}
use Rattle.seq_tree.specs.Statements.{Statements}
use Rattle.ods_tree.specs.Flats.{Guarded}
use Rattle.ada_tree.specs.Programs.{Program, Unit, Form, Passive, Shared, Cyclic, Sporadic}
use Rattle.ada_tree.specs.Bodies.{heads}
use Rattle.ada_tree.specs.Rules.{MeetsRules}
use Rattle.trace_tree.specs.Lines.{unit_name, unit_ops}
use Rattle.trace_tree.specs.Placed.{IsUnit, IsOp}
use Rattle.guarantee.specs.Events.{op_at}
use Rattle.law_traces.specs.Checks.{op_named}
use Rattle.law_trace_places.specs.Places.{guarded_at, guarded_in}
use Rattle.law_trace_places.proofs.Shared.Units.{item-at, what-it-is}
use Rattle.std.proofs.lemmas.List.{length-map}
use Rattle.seq_tree.specs.Trees.{block_of, operation_of}
use Rattle.seq_tree.specs.declared.tree.OpText.{OpText}
use Rattle.trace_text.proofs.Shared.Names.{read-map}
use Rattle.guarantee.specs.Software.{program_software}
use Rattle.law_traces.specs.Entries as entries
use Rattle.law_traces.specs.Services as services
use Rattle.law_traces.specs.Services.{entered_in, left_in, charge_in}
use Rattle.trace_scripts.specs.Objects.{object_of, service_of}
use Rattle.trace_scripts.specs.Scenes.{AllBlocks, AllIn}
use Rattle.trace_scripts.specs.Serving.{leave_by, enter_by, charge_by, left_at, entered_at, charged_at, service_at}
use Rattle.trace_scripts.specs.declared.objects.Object.{Object}
use Rattle.trace_scripts.specs.declared.services.Service.{Service}
use Rattle.trace_scripts.proofs.Readings.{unit-ops}
use Rattle.trace_scripts.proofs.ObjectsNamed.{map-at}
use Rattle.law_traces.proofs.Shared.Events.{each-at}

-- one item of a list under a view: changed, and read
changed-at : {A B : Type 0} (view : A → B) (xs : List A) (i : ℕ) (x y : A) (f : B → B) → i < length xs → x ≡ get_or xs i x → view y ≡ f (view x)
    → map view (set xs i y) ≡ change i f (map view xs)
changed-at view [] i x y f h e g = absurd (omega (arith, h))
changed-at {A} {B} view (u ∷ us) zero x y f h e g = ap (λ z. z ∷ map view us) (g ∙ ap (λ z. f (view z)) e)
changed-at view (u ∷ us) (suc i) x y f h e g =
    ap (λ z. view u ∷ z) (changed-at view us i x y f (let k : suc i < suc (length us) = h in omega arith) e g)

pub read-at : {A B : Type 0} (view : A → B) (xs : List A) (i : ℕ) (x : A) (d : B) → i < length xs → x ≡ get_or xs i x
    → unwrap_or (slice_get (map view xs) i) d ≡ view x
read-at view [] i x d h e = absurd (omega (arith, h))
read-at view (u ∷ us) zero x d h e = ap view (sym e)
read-at view (u ∷ us) (suc i) x d h e = read-at view us i x d (let k : suc i < suc (length us) = h in omega arith) e

-- what is known of a unit that is an object
record IsObject (u : Unit) (g : Guarded) : Type 0 where
  heads : heads u.form ≡ map (λ o. o.sig) g.ops

object-unit : (name : Name) (f : Form) (g : Guarded) → guarded_in (record { name = name; form = f }) ≡ Some g
    → IsObject (record { name = name; form = f }) g
object-unit name (Passive ops) g e = absurd (none-some g e)
object-unit name (Shared ceiling vars ops) g e =
    let z : Guarded = record { name = name; vars = vars; ops = ops } in
    subst (IsObject (record { name = name; form = Shared ceiling vars ops })) (same_Some z g e) (record { heads = refl })
object-unit name (Cyclic priority offset period vars block) g e = absurd (none-some g e)
object-unit name (Sporadic priority ceiling op separation jitter external vars block) g e = absurd (none-some g e)

object-blocks : (P : Statements → Type 0) (name : Name) (f : Form) (g : Guarded) → guarded_in (record { name = name; form = f }) ≡ Some g
    → AllBlocks P f → Each (λ o. P o.block) g.ops
object-blocks P name (Passive ops) g e h = absurd (none-some g e)
object-blocks P name (Shared ceiling vars ops) g e h =
    let z : Guarded = record { name = name; vars = vars; ops = ops } in subst (λ (x : Guarded). Each (λ o. P o.block) x.ops) (same_Some z g e) h
object-blocks P name (Cyclic priority offset period vars block) g e h = absurd (none-some g e)
object-blocks P name (Sporadic priority ceiling op separation jitter external vars block) g e h = absurd (none-some g e)

module _ (p : Program) (unit : ℕ) (in' : IsUnit p unit) (g : Guarded) (at : guarded_at p unit ≡ Some g) where
  abbrev here : (u : Unit) × (slice_get p.units unit ≡ Some u)
  here = item-at p.units unit in'

  is-object : IsObject here.0 g
  is-object = object-unit here.0.name here.0.form g (sym (ap (option_and_then guarded_in) here.1) ∙ at)

  ops-are : unit_ops p unit ≡ map (λ o. o.sig) g.ops
  ops-are = unit-ops p unit here.0 here.1 ∙ is-object.heads

  length-sigs : (os : List Operation) → length (map (λ (q : Operation). q.sig) os) ≡ length os
  length-sigs [] = refl
  length-sigs (o ∷ os) = ap suc (length-sigs os)

  pub op-within : (op : ℕ) → IsOp p unit op → op < length g.ops
  op-within op h = subst (λ n. op < n) (length-sigs g.ops) (subst (λ hs. op < length hs) ops-are h)

  pub op-name : (op : ℕ) (o : Operation) → slice_get g.ops op ≡ Some o → (op_at p unit op).op ≡ o.sig.name
  op-name op o e =
      let F : List Signature → Name = λ hs. unwrap_or (option_map (λ (z : Signature). z.name) (slice_get hs op)) [] in
      ap F ops-are ∙ ap (λ x. unwrap_or (option_map (λ (z : Signature). z.name) x) []) (map-at (λ (q : Operation). q.sig) g.ops op o e)

  pub op-found : MeetsRules p → (op : ℕ) (o : Operation) → IsOp p unit op → slice_get g.ops op ≡ Some o → op_named g o.sig.name ≡ Some o
  op-found meets op o h e =
      ap (op_named g) (sym (op-name op o e)) ∙ (what-it-is p meets unit in').op g at op h ∙ e

  pub body-at : (P : Statements → Type 0) → AllIn P p → (op : ℕ) (o : Operation) → slice_get g.ops op ≡ Some o → P o.block
  body-at P all op o e =
      let blocks : AllBlocks P here.0.form = each-at (λ u. AllBlocks P u.form) p.units unit here.0 all here.1 in
      let of-g : Each (λ q. P q.block) g.ops =
      object-blocks P here.0.name here.0.form g (sym (ap (option_and_then guarded_in) here.1) ∙ at) blocks in
      each-at (λ q. P q.block) g.ops op o of-g e

-- ONE STATE
set-twice : {A : Type 0} (xs : List A) (i : ℕ) (x y : A) → set (set xs i x) i y ≡ set xs i y
set-twice [] i x y = refl
set-twice (z ∷ zs) zero x y = refl
set-twice (z ∷ zs) (suc i) x y = ap (λ k. z ∷ k) (set-twice zs i x y)

pub change-same : {A : Type 0} (i : ℕ) (f : A → A) (xs : List A) → ((x : A) → f x ≡ x) → change i f xs ≡ xs
change-same i f [] h = refl
change-same zero f (x ∷ xs) h = ap (λ z. z ∷ xs) (h x)
change-same (suc i) f (x ∷ xs) h = ap (λ z. x ∷ z) (change-same i f xs h)

pub state-set : {A B : Type 0} (view : A → B) (xs : List A) (i : ℕ) (b x y : A) (f : B → B) → i < length xs → x ≡ get_or xs i x → view y ≡ f (view x)
    → map view (set (set xs i b) i y) ≡ change i f (map view xs)
state-set view xs i b x y f h e g = ap (map view) (set-twice xs i b y) ∙ changed-at view xs i x y f h e g

pub object-here : (p : Program) (unit : ℕ) (name : Name) (r : Option Object) (o : Object) → option_map (object_of name) r ≡ guarded_at p unit
    → r ≡ Some o → guarded_at p unit ≡ Some (object_of name o)
object-here p unit name r o e is = sym e ∙ ap (option_map (object_of name)) is

pub none-here : (p : Program) (unit : ℕ) (name : Name) (r : Option Object) → option_map (object_of name) r ≡ guarded_at p unit → r ≡ None
    → guarded_at p unit ≡ None
none-here p unit name r e is = sym e ∙ ap (option_map (object_of name)) is

pub ops-within : (p : Program) (unit : ℕ) → IsUnit p unit → (name : Name) (o : Object) → guarded_at p unit ≡ Some (object_of name o) → (op : ℕ)
    → IsOp p unit op → op < length o.ops.now
ops-within p unit in' name o at op h =
    let k = op-within p unit in' (object_of name o) at op h in subst (λ n. op < n) (length-map o.ops.now operation_of) k

module _ (p : Program) (meets : MeetsRules p) (task unit op : ℕ) (in' : IsUnit p unit) (inside : IsOp p unit op) (name thread : Name) (ob : Object)
    (at : guarded_at p unit ≡ Some (object_of name ob)) (named : unit_name p task ≡ thread) (body : OpText) (is : body ≡ get_or ob.ops.now op body) where
  abbrev g : Guarded
  g = object_of name ob

  pub body-here : slice_get g.ops op ≡ Some (operation_of body)
  body-here = read-map operation_of ob.ops.now op body (op-within p unit in' g at op inside) is

  pub body-named : op_named g body.sig.name ≡ Some (operation_of body)
  body-named = op-found p unit in' g at meets op (operation_of body) inside body-here

  pub body-all : (P : Statements → Type 0) → AllIn P p → P (block_of body.block)
  body-all P all = body-at p unit in' g at P all op (operation_of body) body-here

  op-same : (op_at p unit op).op ≡ body.sig.name
  op-same = op-name p unit in' g at op (operation_of body) body-here

  pub leave-made : (ss : List Service) (b before after : Service) (values : List ℕ) → unit < length ss → before ≡ get_or ss unit before
      → service_of after ≡ left_in thread body.sig.name values (service_of before)
      → map service_of (set (set ss unit b) unit after) ≡ left_at p task unit op values (map service_of ss)
  leave-made ss b before after values h e does =
      let F : Name → Name → Option Guarded → List services.Service = λ x y o. change unit (leave_by x y values o) (map service_of ss) in
      state-set service_of ss unit b before after (left_in thread body.sig.name values) h e does
      ∙ ap (λ x. F x body.sig.name (Some g)) (sym named) ∙ ap (λ y. F (unit_name p task) y (Some g)) (sym op-same)
      ∙ ap (F (unit_name p task) (op_at p unit op).op) (sym at)

  pub enter-made : (depth : ℕ) (x : entries.Entry) (ss : List Service) (b before after : Service) (values : List ℕ) → unit < length ss
      → before ≡ get_or ss unit before
      → service_of after ≡ entered_in (program_software p) depth g thread body.sig.name values x (service_of before)
      → map service_of (set (set ss unit b) unit after) ≡ entered_at p depth task unit op values x (map service_of ss)
  enter-made depth x ss b before after values h e does =
      let F : Name → Name → Option Guarded → List services.Service =
      λ n y o. change unit (enter_by (program_software p) depth n y values x o) (map service_of ss) in
      state-set service_of ss unit b before after (entered_in (program_software p) depth g thread body.sig.name values x) h e does
      ∙ ap (λ n. F n body.sig.name (Some g)) (sym named) ∙ ap (λ y. F (unit_name p task) y (Some g)) (sym op-same)
      ∙ ap (F (unit_name p task) (op_at p unit op).op) (sym at)

  pub charge-made : (depth most : ℕ) (x : entries.Entry) (ss : List Service) (before : Service) (values : List ℕ) (c : ℕ × ℕ) → unit < length ss
      → before ≡ get_or ss unit before → c ≡ charge_in (program_software p) depth most g body.sig.name values x (service_of before)
      → c ≡ charged_at p depth most unit op values x (map service_of ss)
  charge-made depth most x ss before values c h e does =
      let F : Name → Option Guarded → services.Service → ℕ × ℕ = λ y o s. charge_by (program_software p) depth most y values x o s in
      does ∙ ap (F body.sig.name (Some g)) (sym (read-at service_of ss unit before services.Broken h e))
      ∙ ap (λ y. F y (Some g) (service_at unit (map service_of ss))) (sym op-same)
      ∙ ap (λ o. F (op_at p unit op).op o (service_at unit (map service_of ss))) (sym at)

-- a unit that is no object
pub leave-none : (p : Program) (task unit op : ℕ) (ss : List services.Service) (values : List ℕ) → guarded_at p unit ≡ None
    → ss ≡ left_at p task unit op values ss
leave-none p task unit op ss values at =
    sym (change-same unit (leave_by (unit_name p task) (op_at p unit op).op values None) ss (λ x. refl))
    ∙ ap (λ o. change unit (leave_by (unit_name p task) (op_at p unit op).op values o) ss) (sym at)

pub enter-none : (p : Program) (depth task unit op : ℕ) (x : entries.Entry) (ss : List services.Service) (values : List ℕ) → guarded_at p unit ≡ None
    → ss ≡ entered_at p depth task unit op values x ss
enter-none p depth task unit op x ss values at =
    sym (change-same unit (enter_by (program_software p) depth (unit_name p task) (op_at p unit op).op values x None) ss (λ y. refl))
    ∙ ap (λ o. change unit (enter_by (program_software p) depth (unit_name p task) (op_at p unit op).op values x o) ss) (sym at)
