-- Units that are entered one after another, so that calls of their names are found.
use Rattle.std.proofs.Common.{◌≡◌, ℕ, suc, ◌<◌, Bool, true, false, List, [], ◌∷◌, ◌++◌, Option, Some, None, length, map, drop, get_or, refl, ap}
use Rattle.std.proofs.Common.{sym, subst, ◌∙◌, append-nil, append_assoc, drop-cons}
use Rattle.std.specs.Prelude.{slice_get, option_map, is_some, if◌then◌else◌}
use Rattle.std.proofs.lemmas.Option.{same_Some}
use Rattle.std.proofs.lemmas.Slice.Eq.{bytes_eq-Decides}
use Rattle.std.proofs.Math.Seq.{drop-length}
use Rattle.seq_tree.specs.Lists.{first_from}
use Rattle.seq_tree.specs.Names.{Name, same_name}
use Rattle.seq_tree.specs.Operations.{Operation}
use Rattle.seq_tree.specs.Trees.{operation_of}
use Rattle.seq_tree.specs.declared.tree.Datum.{Datum}
use Rattle.seq_tree.specs.declared.tree.OpText.{OpText}
use Rattle.machine.specs.Systems.{System, ProtectedUnit, CallTarget, Plain, Protected, Request, Unknown, callee}
use Rattle.machine.specs.Systems.{op_named, plain_by, protected_by}
use Rattle.name_sets.specs.Tables.{named}
use Rattle.name_sets.specs.declared.name_table.NameTable.{NameTable}
use Rattle.linker.specs.Callees.{AddsBodies, AreEntered, AreLed, IsFound, IsLed, OpBody, Passes, lead_by, lead_found}
use Rattle.linker.specs.Callees.{target_among}
use Rattle.linker.specs.Leads.{Leads, Body, Nowhere}
use Rattle.linker.specs.declared.tables.Entry.{Entry}
use Rattle.linker.specs.declared.tables.Found.{Found}
use Rattle.linker.proofs.Keeping.{get_last, get_more}

same_one : (a b : Name) → same_name a b ≡ true → a ≡ b
same_one a b e = (bytes_eq-Decides a b).0 e

pub adds_none : (bs : List OpBody) → AddsBodies bs bs
adds_none bs = record { more = []; is = sym (append-nil bs) }

pub adds_one : (as' bs cs : List OpBody) (b : OpBody) → AddsBodies as' bs → cs ≡ bs ++ b ∷ [] → AddsBodies as' cs
adds_one as' bs cs b a e = record {
  more = a.more ++ b ∷ [];
  is = e ∙ ap (λ z. z ++ b ∷ []) a.is ∙ append_assoc as' a.more (b ∷ []);
}

-- what was found stays found
found_more : (bs more : List OpBody) (object : Option ℕ) (vars : List Datum) (f : Option Found) (o : Option (ℕ × Operation))
    → IsFound bs object vars f o → IsFound (bs ++ more) object vars f o
found_more bs more object vars None o h = h
found_more bs more object vars (Some f) o h =
    (h.0, h.1, h.2, h.3, get_more bs more f.place (record { owner = option_map (λ (k : ℕ). (k, h.0)) object; vars = vars; op = h.1 }) h.4)

pub found_none : (bs : List OpBody) (object : Option ℕ) (vars : List Datum) (n : Name) (ops : List OpText) (f : Option Found) → f ≡ None
    → IsFound bs object vars f (first_from (length ops) (λ o. same_name o.sig.name n) (map operation_of (drop (length ops) ops)))
found_none bs object vars n ops f e =
    subst (λ z. IsFound bs object vars z (first_from (length ops) (λ o. same_name o.sig.name n) (map operation_of (drop (length ops) ops)))) (sym e)
    (ap (λ z. first_from (length ops) (λ (o : Operation). same_name o.sig.name n) (map operation_of z)) (drop-length ops))

-- one operation more, before the others
found_by : (b : Bool) (bs : List OpBody) (object : Option ℕ) (vars : List Datum) (n : Name) (old new : Option Found) (f : Found)
    (o : Operation) (at : ℕ)
    (os : List Operation) → same_name o.sig.name n ≡ b → new ≡ (if same_name o.sig.name n then Some f else old)
    → f.params.now ≡ o.sig.params → f.place ≡ length bs → IsFound bs object vars old (first_from (suc at) (λ q. same_name q.sig.name n) os)
    → IsFound (bs ++ record { owner = option_map (λ (k : ℕ). (k, at)) object; vars = vars; op = o } ∷ []) object vars new
    (first_from at (λ q. same_name q.sig.name n) (o ∷ os))
found_by true bs object vars n old new f o at os e is params place h =
    let w : OpBody = record { owner = option_map (λ (k : ℕ). (k, at)) object; vars = vars; op = o } in
    rw (is, e) (at, o, refl, params, subst (λ z. slice_get (bs ++ w ∷ []) z ≡ Some w) (sym place) (get_last bs w))
found_by false bs object vars n old new f o at os e is params place h =
    let w : OpBody = record { owner = option_map (λ (k : ℕ). (k, at)) object; vars = vars; op = o } in
    rw (is, e) (found_more bs (w ∷ []) object vars old (first_from (suc at) (λ (q : Operation). same_name q.sig.name n) os) h)

pub found_on : (bs cs : List OpBody) (object : Option ℕ) (vars : List Datum) (n : Name) (old new : Option Found) (f : Found) (ops : List OpText)
    (op : OpText) (at : ℕ) → at < length ops → op ≡ get_or ops at op
    → cs ≡ bs ++ record { owner = option_map (λ (k : ℕ). (k, at)) object; vars = vars; op = operation_of op } ∷ []
    → new ≡ (if same_name op.sig.name n then Some f else old) → f.params.now ≡ op.sig.params.items → f.place ≡ length bs
    → IsFound bs object vars old (first_from (suc at) (λ q. same_name q.sig.name n) (map operation_of (drop (suc at) ops)))
    → IsFound cs object vars new (first_from at (λ q. same_name q.sig.name n) (map operation_of (drop at ops)))
found_on bs cs object vars n old new f ops op at lt is grown put params place h =
    subst (λ os. IsFound cs object vars new (first_from at (λ q. same_name q.sig.name n) os)) (sym here)
    (subst (λ z. IsFound z object vars new (first_from at (λ q. same_name q.sig.name n) (operation_of op ∷ map operation_of (drop (suc at) ops))))
    (sym grown)
    (found_by (same_name op.sig.name n) bs object vars n old new f (operation_of op) at (map operation_of (drop (suc at) ops))
    refl put params place h))
  where
    here : map operation_of (drop at ops) ≡ operation_of op ∷ map operation_of (drop (suc at) ops)
    here = ap (map operation_of) (drop-cons ops at op lt) ∙ ap (λ x. operation_of x ∷ map operation_of (drop (suc at) ops)) (sym is)

-- what a call leads to stays
led_more : (bs more : List OpBody) (t : CallTarget) (w : Leads) → IsLed bs t w → IsLed (bs ++ more) t w
led_more bs more (Plain o) w h = (h.0, h.1, get_more bs more h.0 (record { owner = None; vars = []; op = o }) h.2)
led_more bs more (Protected object place g o) w h =
    (h.0, h.1, get_more bs more h.0 (record { owner = Some (object, place); vars = g.vars; op = o }) h.2)
led_more bs more (Request task) w h = h
led_more bs more Unknown w h = h

-- before any unit is entered
pub entered_none : (y : System) (us : NameTable Entry) (bs : List OpBody) → ((n : Name) → named us n ≡ None)
    → AreEntered y us bs (target_among 0 y.libraries 0 y.objects 0 y.threads)
entered_none y us bs h = record {
  absent = λ n e op. refl;
  present = λ n e some op. absurd (no_entry e (sym (h n) ∙ some));
}
  where
    no_entry : (e : Entry) → None ≡ Some e → ⊥
    no_entry e h = cc

module _ (y : System) (name : Name) (target : Name → CallTarget) (left left' : Name → Name → CallTarget)
    (passes : Passes name target left left') where
  -- a name that was entered before
  pub entered_before : (us : NameTable Entry) (bs : List OpBody) (e : Entry) → named us name ≡ Some e
      → AreEntered y us bs left → AreEntered y us bs left'
  entered_before us bs e there h = record {
    absent = λ n none op. h.absent n none op ∙ passes.others n op (differs n (same_name name n) refl none);
    present = h.present;
  }
    where
      differs : (n : Name) (b : Bool) → same_name name n ≡ b → named us n ≡ None → same_name name n ≡ false
      differs n true k none = absurd (let same : named us n ≡ Some e = ap (named us) (sym (same_one name n k)) ∙ there in cc)
      differs n false k none = k

  -- a name that is entered now
  pub entered_now : (us us' : NameTable Entry) (bs bs' : List OpBody) (e : Entry) → AddsBodies bs bs' → named us name ≡ None
      → ((n : Name) → named us' n ≡ (if same_name name n then Some e else named us n))
      → ((op : Name) → IsLed bs' (target op) (lead_by (Some e) op)) → AreEntered y us bs left → AreEntered y us' bs' left'
  entered_now us us' bs bs' e adds none put led h = record {
    absent = λ n gone op. absent_by n (same_name name n) refl gone op;
    present = λ n f some op. present_by n (same_name name n) refl f some op;
  }
    where
      put_by : (n : Name) (b : Bool) → same_name name n ≡ b → named us' n ≡ (if b then Some e else named us n)
      put_by n b k = put n ∙ ap (λ z. if z then Some e else named us n) k

      absent_by : (n : Name) (b : Bool) → same_name name n ≡ b → named us' n ≡ None → (op : Name) → callee y n op ≡ left' n op
      absent_by n true k gone op = absurd (let there : named us' n ≡ Some e = put_by n true k in cc)
      absent_by n false k gone op = h.absent n (sym (put_by n false k) ∙ gone) op ∙ passes.others n op k

      here : (n : Name) → same_name name n ≡ true → (op : Name) → IsLed bs' (callee y n op) (lead_by (Some e) op)
      here n k op =
          let same = same_one name n k in
          subst (λ m. IsLed bs' (callee y m op) (lead_by (Some e) op)) same
          (subst (λ t. IsLed bs' t (lead_by (Some e) op)) (sym (h.absent name none op ∙ passes.here op)) (led op))

      present_by : (n : Name) (b : Bool) → same_name name n ≡ b → (f : Entry) → named us' n ≡ Some f → (op : Name)
          → IsLed bs' (callee y n op) (lead_by (Some f) op)
      present_by n true k f some op =
          subst (λ x. IsLed bs' (callee y n op) (lead_by (Some x) op)) (same_Some e f (sym (put_by n true k) ∙ some)) (here n k op)
      present_by n false k f some op =
          subst (λ z. IsLed z (callee y n op) (lead_by (Some f) op)) (sym adds.is)
          (led_more bs adds.more (callee y n op) (lead_by (Some f) op) (h.present n f (sym (put_by n false k) ∙ some) op))

-- what is found of a passive unit, and of a protected object, is what a call of it leads to
plain_by_found : (bs : List OpBody) (f : Option Found) (o : Option (ℕ × Operation)) → IsFound bs None [] f o → IsLed bs (plain_by o) (lead_found f)
plain_by_found bs None o h = rw h refl
plain_by_found bs (Some f) o h = rw h.2 (f.place, ap (Body f.place) h.3, h.4)

pub plain_led : (ops : List Operation) → AreLed None [] ops (λ op. plain_by (op_named op ops))
plain_led ops = λ op bs f h. plain_by_found bs f (op_named op ops) h

protected_by_found : (at : ℕ) (g : ProtectedUnit) (bs : List OpBody) (f : Option Found) (o : Option (ℕ × Operation)) → IsFound bs (Some at) g.vars f o
    → IsLed bs (protected_by (at, g) o) (lead_found f)
protected_by_found at g bs None o h = rw h refl
protected_by_found at g bs (Some f) o h = rw h.2 (f.place, ap (Body f.place) h.3, h.4)

pub protected_led : (at : ℕ) (g : ProtectedUnit) → AreLed (Some at) g.vars g.ops (λ op. protected_by (at, g) (op_named op g.ops))
protected_led at g = λ op bs f h. protected_by_found at g bs f (op_named op g.ops) h

-- all units are entered
pub entered_all : (y : System) (us : NameTable Entry) (bs : List OpBody) → AreEntered y us bs (target_among 0 [] 0 [] 0 []) → (n op : Name)
    → IsLed bs (callee y n op) (lead_by (named us n) op)
entered_all y us bs h n op = by (named us n) refl
  where
    by : (o : Option Entry) → named us n ≡ o → IsLed bs (callee y n op) (lead_by (named us n) op)
    by None e = subst (λ o. IsLed bs (callee y n op) (lead_by o op)) (sym e) (subst (λ t. IsLed bs t Nowhere) (sym (h.absent n e op)) refl)
    by (Some f) e = subst (λ o. IsLed bs (callee y n op) (lead_by o op)) (sym e) (h.present n f e op)

-- what a test of an option says
pub given : {A : Type 0} (o : Option A) → true ≡ is_some o → (a : A) × (o ≡ Some a)
given None h = absurd (cc)
given (Some a) h = (a, refl)

pub lacking : {A : Type 0} (o : Option A) → false ≡ is_some o → o ≡ None
lacking None h = refl
lacking (Some a) h = absurd (cc)
