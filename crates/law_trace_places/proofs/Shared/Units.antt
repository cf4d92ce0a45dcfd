-- Units by their places and by their names.
use Rattle.std.proofs.Common.{◌≡◌, ℕ, zero, suc, Bool, true, false, not, List, [], ◌∷◌, ◌++◌, map, length, Option, Some, None, refl, sym, ap, subst}
use Rattle.std.proofs.Common.{◌∙◌, arith}
use Rattle.std.specs.Prelude.{◌<◌, ◌==◌, ◌||◌, cond, find, filter_map, slice_get, option_map, option_and_then, unwrap_or, is_some}
use Rattle.std.specs.List.{cons_option, list_any}
use Rattle.std.proofs.lemmas.Bool.{and_parts, or_parts, eqb-true, eq-eqb, ne_eqb, false_from_ne_true, not-true}
use Rattle.std.specs.Cmp.{both_ways}
use Rattle.std.proofs.lemmas.Option.{none-some, same_Some}
use Rattle.seq_tree.specs.Lists.{Each}
use Rattle.seq_tree.specs.Names.{Name, same_name, is_named, are_distinct}
use Rattle.seq_tree.specs.Operations.{Signature, Operation}
use Rattle.ods_tree.specs.Flats.{Guarded}
use Rattle.ada_tree.specs.Programs.{Form, Unit, Program, Passive, Shared, Cyclic, Sporadic}
use Rattle.ada_tree.specs.Bodies.{heads}
use Rattle.ada_tree.specs.Naming.{breaks_naming, own_names}
use Rattle.ada_tree.specs.Rules.{MeetsRules, Naming, At}
use Rattle.trace_tree.specs.Lines.{unit_name, unit_ops}
use Rattle.trace_tree.specs.Placed.{IsUnit, IsOp}
use Rattle.guarantee.specs.Software.{Task, program_software}
use Rattle.guarantee.specs.Order.{is_task_name}
use Rattle.guarantee.specs.Events.{op_at}
use Rattle.law_calls.proofs.Shared.UnitNames.{AreApart}
use Rattle.law_calls.proofs.Shared.Apart.{units_apart}
use Rattle.law_lists.proofs.Shared.Facts.{is-same}
use Rattle.law_traces.specs.Checks.{object_named, op_named}
use Rattle.law_traces.proofs.Shared.Finding.{same-turned}
use Rattle.law_trace_places.specs.Places.{task_in, guarded_in, guarded_at}
use Rattle.law_trace_places.specs.Laws.{TellsWhatItIs}
use Rattle.law_traces.proofs.Shared.Events.{each-at}

-- the item at a place inside a list
pub item-at : {A : Type 0} (xs : List A) (k : ℕ) → k < length xs → (x : A) × (slice_get xs k ≡ Some x)
item-at [] k h = absurd (omega (arith, h))
item-at (x ∷ xs) zero h = (x, refl)
item-at (x ∷ xs) (suc k) h = item-at xs k (let g : suc k < suc (length xs) = h in omega arith)

-- NAMES of units
pub suc-same : (i j : ℕ) → (i == j) ≡ (suc i == suc j)
suc-same i j = both_ways (i == j) (suc i == suc j)
    (λ e. eq-eqb (suc i) (suc j) (ap suc (eqb-true i j e))) (λ e. eq-eqb i j (let s : suc i ≡ suc j = eqb-true (suc i) (suc j) e in omega (arith, s)))

pub names-tell : (us : List Unit) (i j : ℕ) (u v : Unit) → AreApart us → slice_get us i ≡ Some u → slice_get us j ≡ Some v
    → same_name u.name v.name ≡ (i == j)
names-tell [] i j u v far at to = absurd (none-some u at)
names-tell (w ∷ us) zero zero u v far at to =
    is-same u.name v.name (ap (λ (x : Unit). x.name) (sym (same_Some w u at) ∙ same_Some w v to))
names-tell (w ∷ us) zero (suc j) u v far at to =
    ap (λ (x : Unit). same_name x.name v.name) (sym (same_Some w u at)) ∙ each-at (λ z. same_name w.name z.name ≡ false) us j v far.0 to
    ∙ sym (ne_eqb zero (suc j) (λ e. let z : zero ≡ suc j = e in absurd (omega (arith, z))))
names-tell (w ∷ us) (suc i) zero u v far at to =
    ap (λ (x : Unit). same_name u.name x.name) (sym (same_Some w v to))
    ∙ same-turned w.name u.name (each-at (λ z. same_name w.name z.name ≡ false) us i u far.0 at)
    ∙ sym (ne_eqb (suc i) zero (λ e. let z : suc i ≡ zero = e in absurd (omega (arith, z))))
names-tell (w ∷ us) (suc i) (suc j) u v far at to = names-tell us i j u v far.1 at to ∙ suc-same i j

pub name-is : (p : Program) (k : ℕ) (u : Unit) → slice_get p.units k ≡ Some u → unit_name p k ≡ u.name
unfolding unit_name
name-is p k u at = ap (λ o. unwrap_or (option_map (λ (x : Unit). x.name) o) []) at

pub unit-names : (p : Program) → MeetsRules p → (i j : ℕ) → IsUnit p i → IsUnit p j → same_name (unit_name p i) (unit_name p j) ≡ (i == j)
unit-names p meets i j h k =
    let u = item-at p.units i h in
    let v = item-at p.units j k in
    ap (λ n. same_name n (unit_name p j)) (name-is p i u.0 u.1) ∙ ap (same_name u.0.name) (name-is p j v.0 v.1)
    ∙ names-tell p.units i j u.0 v.0 (units_apart p meets) u.1 v.1

-- WHAT IS MADE of units, one at most of each, is found by the name of its unit
module _ {X : Type 0} (make : Unit → Option X) (called : X → Name) (keeps : (u : Unit) (x : X) → make u ≡ Some x → called x ≡ u.name) where
  abbrev is_it : Name → X → Bool
  is_it name x = same_name (called x) name

  passed : (name : Name) (u : Unit) (us : List Unit) → same_name u.name name ≡ false
      → find (is_it name) (filter_map make (u ∷ us)) ≡ find (is_it name) (filter_map make us)
  passed name u us e = by (make u) refl
    where
      by : (o : Option X) → make u ≡ o → find (is_it name) (cons_option o (filter_map make us)) ≡ find (is_it name) (filter_map make us)
      by None g = refl
      by (Some x) g =
          ap (λ b. cond b (Some x) (find (is_it name) (filter_map make us))) (ap (λ n. same_name n name) (keeps u x g) ∙ e)

  none-behind : (name : Name) (us : List Unit) → Each (λ v. same_name name v.name ≡ false) us → find (is_it name) (filter_map make us) ≡ None
  none-behind name [] h = refl
  none-behind name (u ∷ us) h = passed name u us (same-turned name u.name h.0) ∙ none-behind name us h.1

  here : (u : Unit) (us : List Unit) → Each (λ v. same_name u.name v.name ≡ false) us → find (is_it u.name) (filter_map make (u ∷ us)) ≡ make u
  here u us h = by (make u) refl
    where
      by : (o : Option X) → make u ≡ o → find (is_it u.name) (cons_option o (filter_map make us)) ≡ o
      by None g = none-behind u.name us h
      by (Some x) g = ap (λ b. cond b (Some x) (find (is_it u.name) (filter_map make us))) (is-same (called x) u.name (keeps u x g))

  pub found : (us : List Unit) (k : ℕ) (u : Unit) → AreApart us → slice_get us k ≡ Some u → find (is_it u.name) (filter_map make us) ≡ make u
  found [] k u far at = absurd (none-some u at)
  found (w ∷ us) zero u far at =
      let P : Unit → Type 0 = λ z. find (is_it z.name) (filter_map make (w ∷ us)) ≡ make z in subst P (same_Some w u at) (here w us far.0)
  found (w ∷ us) (suc k) u far at =
      passed u.name w us (each-at (λ z. same_name w.name z.name ≡ false) us k u far.0 at) ∙ found us k u far.1 at

pub task-name : (u : Unit) (t : Task) → task_in u ≡ Some t → t.name ≡ u.name
task-name u t e = by u.name u.form e
  where
    by : (name : Name) (f : Form) → task_in (record { name = name; form = f }) ≡ Some t → t.name ≡ name
    by name (Passive ops) h = absurd (none-some t h)
    by name (Shared ceiling vars ops) h = absurd (none-some t h)
    by name (Cyclic priority offset period vars block) h = ap (λ (z : Task). z.name) (sym (same_Some _ t h))
    by name (Sporadic priority ceiling op separation jitter external vars block) h = ap (λ (z : Task). z.name) (sym (same_Some _ t h))

pub object-name : (u : Unit) (g : Guarded) → guarded_in u ≡ Some g → g.name ≡ u.name
object-name u g e = by u.name u.form e
  where
    by : (name : Name) (f : Form) → guarded_in (record { name = name; form = f }) ≡ Some g → g.name ≡ name
    by name (Passive ops) h = absurd (none-some g h)
    by name (Shared ceiling vars ops) h = ap (λ (z : Guarded). z.name) (sym (same_Some _ g h))
    by name (Cyclic priority offset period vars block) h = absurd (none-some g h)
    by name (Sporadic priority ceiling op separation jitter external vars block) h = absurd (none-some g h)

any-found : {A : Type 0} (test : A → Bool) (xs : List A) → list_any test xs ≡ is_some (find test xs)
any-found test [] = refl
any-found {A} test (x ∷ xs) = by (test x) refl (any-found test xs)
  where
    by : (b : Bool) → test x ≡ b → list_any test xs ≡ is_some (find test xs) → list_any test (x ∷ xs) ≡ is_some (cond b (Some x) (find test xs))
    by true e more = ap (λ b. b || list_any test xs) e
    by false e more = ap (λ b. b || list_any test xs) e ∙ more

-- OPERATIONS of an object
named-not : (ops : List Operation) (more : List Name) (name : Name) (k : ℕ) (o : Operation)
    → is_named (map (λ h. h.name) (map (λ q. q.sig) ops) ++ more) name ≡ false → slice_get ops k ≡ Some o → same_name o.sig.name name ≡ false
named-not [] more name k o e at = absurd (none-some o at)
named-not (q ∷ ops) more name zero o e at =
    ap (λ (z : Operation). same_name z.sig.name name) (sym (same_Some q o at)) ∙ (or_parts (same_name q.sig.name name) _ e).0
named-not (q ∷ ops) more name (suc k) o e at = named-not ops more name k o (or_parts (same_name q.sig.name name) _ e).1 at

op-found : (ops : List Operation) (more : List Name) (k : ℕ) (o : Operation)
    → are_distinct (map (λ h. h.name) (map (λ q. q.sig) ops) ++ more) ≡ true → slice_get ops k ≡ Some o
    → find (λ q. same_name q.sig.name o.sig.name) ops ≡ Some o
op-found [] more k o e at = absurd (none-some o at)
op-found (q ∷ ops) more zero o e at =
    ap (λ b. cond b (Some q) (find (λ z. same_name z.sig.name o.sig.name) ops))
    (is-same q.sig.name o.sig.name (ap (λ (z : Operation). z.sig.name) (same_Some q o at))) ∙ at
op-found (q ∷ ops) more (suc k) o e at =
    let d = and_parts (not (is_named (map (λ h. h.name) (map (λ q. q.sig) ops) ++ more) q.sig.name)) _ e in
    ap (λ b. cond b (Some q) (find (λ z. same_name z.sig.name o.sig.name) ops))
    (same-turned o.sig.name q.sig.name (named-not ops more q.sig.name k o (not-true _ d.0) at))
    ∙ op-found ops more k o d.1 at

sig-at : (ops : List Operation) (k : ℕ) (o : Operation) → slice_get ops k ≡ Some o → slice_get (map (λ q. q.sig) ops) k ≡ Some o.sig
sig-at [] k o at = absurd (none-some o at)
sig-at (q ∷ ops) zero o at = ap (λ x. option_map (λ (z : Operation). z.sig) x) at
sig-at (q ∷ ops) (suc k) o at = sig-at ops k o at

op-of : (name : Name) (f : Form) (g : Guarded) → are_distinct (own_names f) ≡ true → guarded_in (record { name = name; form = f }) ≡ Some g
    → (k : ℕ) → k < length (heads f) → op_named g (unwrap_or (option_map (λ h. h.name) (slice_get (heads f) k)) []) ≡ slice_get g.ops k
op-of name (Passive ops) g d h k in' = absurd (none-some g h)
op-of name (Shared ceiling vars ops) g d h k in' =
    let same : (let z : Guarded = record { name = name; vars = vars; ops = ops } in z) ≡ g = same_Some _ g h in
    let P : Guarded → Type 0 = λ z. op_named z (unwrap_or (option_map (λ h. h.name) (slice_get (map (λ q. q.sig) ops) k)) []) ≡ slice_get z.ops k in
    subst P same (
    let o = item-at ops k (let e : length (map (λ (q : Operation). q.sig) ops) ≡ length ops = sigs ops in subst (λ n. k < n) e in') in
    ap (λ x. find (λ q. same_name q.sig.name (unwrap_or (option_map (λ h. h.name) x) [])) ops) (sig-at ops k o.0 o.1)
    ∙ op-found ops (map (λ d. d.name) vars) k o.0 d o.1 ∙ sym o.1
    )
  where
    sigs : (os : List Operation) → length (map (λ (q : Operation). q.sig) os) ≡ length os
    sigs [] = refl
    sigs (o ∷ os) = ap suc (sigs os)
op-of name (Cyclic priority offset period vars block) g d h k in' = absurd (none-some g h)
op-of name (Sporadic priority ceiling op separation jitter external vars block) g d h k in' = absurd (none-some g h)

naming : (p : Program) → MeetsRules p → (i : ℕ) (u : Unit) → slice_get p.units i ≡ Some u → breaks_naming p i u ≡ false
naming p rules i u at = false_from_ne_true (breaks_naming p i u) (λ breaks. rules Naming (At i) (u, at, breaks))

pub own-distinct : (p : Program) → MeetsRules p → (k : ℕ) (u : Unit) → slice_get p.units k ≡ Some u → are_distinct (own_names u.form) ≡ true
own-distinct p meets k u at =
    true-by (are_distinct (own_names u.form)) (or_parts _ _ (or_parts _ _ (or_parts _ _ (naming p meets k u at)).0).0).1
  where
    true-by : (b : Bool) → not b ≡ false → b ≡ true
    true-by true e = refl
    true-by false e = cc

-- WHAT A UNIT IS
pub what-it-is : (p : Program) → MeetsRules p → (unit : ℕ) → IsUnit p unit → TellsWhatItIs p unit
unfolding unit_ops
what-it-is p meets unit h = by (item-at p.units unit h)
  where
    by : ((u : Unit) × (slice_get p.units unit ≡ Some u)) → TellsWhatItIs p unit
    by (u, at) = record {
      task = ap (λ n. is_task_name (program_software p).tasks n) (name-is p unit u at)
          ∙ any-found (λ t. same_name t.name u.name) (filter_map task_in p.units)
          ∙ ap is_some (found task_in (λ t. t.name) task-name p.units unit u (units_apart p meets) at)
          ∙ sym (ap (λ o. is_some (option_and_then task_in o)) at);
      object = ap (λ n. object_named (program_software p) n) (name-is p unit u at)
          ∙ found guarded_in (λ g. g.name) object-name p.units unit u (units_apart p meets) at
          ∙ sym (ap (λ o. option_and_then guarded_in o) at);
      op = λ g e k in'. ops g e k in';
    }
      where
        ops : (g : Guarded) → guarded_at p unit ≡ Some g → (k : ℕ) → IsOp p unit k → op_named g (op_at p unit k).op ≡ slice_get g.ops k
        ops g e k in' =
            let here : unit_ops p unit ≡ heads u.form = ap (λ o. unwrap_or (option_map (λ (z : Unit). heads z.form) o) []) at in
            ap (λ hs. op_named g (unwrap_or (option_map (λ (z : Signature). z.name) (slice_get hs k)) [])) here
            ∙ op-of u.name u.form g (own-distinct p meets unit u at) (sym (ap (λ o. option_and_then guarded_in o) at) ∙ e) k
            (subst (λ hs. k < length hs) here in')
