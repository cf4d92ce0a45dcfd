-- The sets of names that are taken: what a further name changes, and when a later one is taken.
use Rattle.std.proofs.Common.{◌≡◌, ℕ, zero, suc, ◌+◌, ◌<◌, ◌≤◌, Bool, true, false, cond, ◌&&◌, ◌||◌, ◌==◌, List, [], ◌∷◌, map, filter, drop}
use Rattle.std.proofs.Common.{length, slice_get, refl, ap, sym, ◌∙◌, arith, add-one}
use Rattle.std.specs.Cmp.Lexicographic.{nat_list_eq_equiv}
use Rattle.std.proofs.Math.ListN.{get_or, drop_of_length-le}
use Rattle.std.proofs.lemmas.Bool.{eqb-true, ne_eqb}
use Rattle.std.proofs.lemmas.Cmp.{nat_eq_equiv}
use Rattle.std.proofs.lemmas.Option.{slice_get_read}
use Rattle.std.proofs.Math.Bool.{and-false}
use Rattle.seq_tree.specs.Names.{Name, same_name, is_named}
use Rattle.ods_tree.specs.Designs.{Object, Provided}
use Rattle.ods_tree.specs.Trees.{provided_of}
use Rattle.ods_tree.specs.declared.design.Provided as code
use Rattle.design_rules.specs.Clashes.{Role, Mention, Whole, Single, Member, Parameter, Local, Loop, excludes, is_request, request_names}
use Rattle.name_sets.specs.Sets.{has}
use Rattle.name_sets.specs.declared.sets.Names.{Names}
use Rattle.ods_names.specs.Keys.{has_key}
use Rattle.ods_names.specs.Mentions.{requests_of}
use Rattle.ods_index.specs.Walking.{object_of}
use Rattle.ods_names.specs.declared.keys.Keys.{Keys}
use Rattle.ods_names.specs.declared.taken.Taken.{Taken}
use Rattle.ods_index.specs.declared.walk.Standing.{Standing}
use Rattle.ods_names.specs.Taken.{Holds, is_single, is_member, is_bodied, is_parameter, is_asked, is_bodied_parameter, is_local, has_request}
use Rattle.ods_names.specs.Taken.{names_where}
use Rattle.seq_tree.proofs.Shared.LoopSteps.{drop_step}

-- a set that a name of another sort doesn't change
pub stays : (s : Bool) {b w : Bool} → b ≡ w → b ≡ ((s && false) || w)
stays true e = e
stays false e = e

pub stays_bare : (s k : Bool) {b w : Bool} → b ≡ w → b ≡ ((s && (k && false)) || w)
stays_bare true true e = e
stays_bare true false e = e
stays_bare false k e = e

pub stays_bare_of : (s k f : Bool) {b w : Bool} → b ≡ w → b ≡ ((s && (k && false && f)) || w)
stays_bare_of true true f e = e
stays_bare_of true false f e = e
stays_bare_of false k f e = e

-- a set to which a name of its sort comes
pub comes : (s : Bool) {new b w : Bool} → new ≡ (s || b) → b ≡ w → new ≡ ((s && true) || w)
comes true e h = e
comes false e h = e ∙ h

pub comes_at : (k s : Bool) {new b w : Bool} → new ≡ (((k && true) && (true && s)) || b) → b ≡ w → new ≡ ((s && k) || w)
comes_at true true e h = e
comes_at true false e h = e ∙ h
comes_at false true e h = e ∙ h
comes_at false false e h = e ∙ h

pub comes_bodied : (k s : Bool) {new b w : Bool} → new ≡ (((k && true) && (true && s)) || b) → b ≡ w → new ≡ ((s && (k && true)) || w)
comes_bodied true true e h = e
comes_bodied true false e h = e ∙ h
comes_bodied false true e h = e ∙ h
comes_bodied false false e h = e ∙ h

pub comes_of : (k f s : Bool) {new b w : Bool} → new ≡ (((k && true) && (f && s)) || b) → b ≡ w → new ≡ ((s && (k && f)) || w)
comes_of true true true e h = e
comes_of true true false e h = e ∙ h
comes_of true false true e h = e ∙ h
comes_of true false false e h = e ∙ h
comes_of false f true e h = e ∙ h
comes_of false f false e h = e ∙ h

pub comes_bodied_of : (k f s : Bool) {new b w : Bool} → new ≡ (((k && true) && (f && s)) || b) → b ≡ w → new ≡ ((s && (k && true && f)) || w)
comes_bodied_of true true true e h = e
comes_bodied_of true true false e h = e ∙ h
comes_bodied_of true false true e h = e ∙ h
comes_bodied_of true false false e h = e ∙ h
comes_bodied_of false f true e h = e ∙ h
comes_bodied_of false f false e h = e ∙ h

-- a set to which a name comes where it has a body
pub comes_where : (b k s : Bool) {new o w : Bool} → new ≡ ((b && ((k && true) && (true && s))) || o) → o ≡ w → new ≡ ((s && (k && b)) || w)
comes_where true k s e h = comes_bodied k s e h
comes_where false k s e h = stays_bare s k (e ∙ h)

pub comes_where_of : (b k f s : Bool) {new o w : Bool} → new ≡ ((b && ((k && true) && (f && s))) || o) → o ≡ w → new ≡ ((s && (k && b && f)) || w)
comes_where_of true k f s e h = comes_bodied_of k f s e h
comes_where_of false k f s e h = stays_bare_of s k f (e ∙ h)

-- a set to which a name comes where it is that of a request
pub comes_asked : (a k s m : Bool) → (k ≡ true → a ≡ m) → {new o w : Bool} → new ≡ ((a && ((k && true) && (true && s))) || o) → o ≡ w
    → new ≡ ((s && (k && m)) || w)
comes_asked a true s m same {new} {o} {w} e h = comes_where a true s e h ∙ ap (λ z. (s && z) || w) (same refl)
comes_asked a false s m same e h = comes_where a false s e h

pub comes_in : (k s : Bool) {new b w : Bool} → new ≡ ((k && (true && s)) || b) → b ≡ w → new ≡ ((s && k) || w)
comes_in true true e h = e
comes_in true false e h = e ∙ h
comes_in false true e h = e ∙ h
comes_in false false e h = e ∙ h

-- sorts of roles that are one
pub same_sort : (f g : Role → Bool) → ((r : Role) → f r ≡ g r) → (es : List Mention) (n : Name) → names_where f es n ≡ names_where g es n
same_sort f g same [] n = refl
same_sort f g same (e ∷ es) n = ap (λ b. (same_name e.name n && b) || names_where f es n) (same e.role) ∙ ap
    (λ b. (same_name e.name n && g e.role) || b) (same_sort f g same es n)

mixed : (s a b x y : Bool) → ((s && (a || b)) || (x || y)) ≡ (((s && a) || x) || ((s && b) || y))
mixed false a b x y = refl
mixed true true b x y = refl
mixed true false false x y = refl
mixed true false true true y = refl
mixed true false true false y = refl

-- a sort that is one of two
pub or_sort : (f g : Role → Bool) (es : List Mention) (n : Name) → names_where (λ r. f r || g r) es n ≡ (names_where f es n || names_where g es n)
or_sort f g [] n = refl
or_sort f g (e ∷ es) n =
    ap (λ b. (same_name e.name n && (f e.role || g e.role)) || b) (or_sort f g es n)
    ∙ mixed (same_name e.name n) (f e.role) (g e.role) (names_where f es n) (names_where g es n)

none_step : (s w : Bool) → w ≡ false → ((s && false) || w) ≡ false
none_step true w e = e
none_step false w e = e

pub none_sort : (es : List Mention) (n : Name) → names_where (λ r. false) es n ≡ false
none_sort [] n = refl
none_sort (e ∷ es) n = none_step (same_name e.name n) (names_where (λ r. false) es n) (none_sort es n)

pub only_sort : (b : Bool) (f : Role → Bool) (es : List Mention) (n : Name) → names_where (λ r. b && f r) es n ≡ (b && names_where f es n)
only_sort true f es n = refl
only_sort false f es n = none_sort es n

pub or_false : (b : Bool) → b ≡ (b || false)
or_false true = refl
or_false false = refl

-- which earlier roles a later one excludes
pub before_whole : (r : Role) → false ≡ excludes r Whole
before_whole Whole = refl
before_whole Single = refl
before_whole (Member q) = refl
before_whole (Parameter q f b) = refl
before_whole (Local q c f) = refl
before_whole (Loop q c fs) = refl

pub before_single : (r : Role) → true ≡ excludes r Single
before_single Whole = refl
before_single Single = refl
before_single (Member q) = refl
before_single (Parameter q f b) = refl
before_single (Local q c f) = refl
before_single (Loop q c fs) = refl

pub before_member : (p : ℕ) (r : Role) → ((is_single r || is_member p r) || is_bodied p r) ≡ excludes r (Member p)
before_member p Whole = refl
before_member p Single = refl
before_member p (Member q) = sym (or_false (q == p))
before_member p (Parameter q f b) = refl
before_member p (Local q c f) = refl
before_member p (Loop q c fs) = refl

idle_by : (b x : Bool) → ((b && false) || x) ≡ x
idle_by true x = refl
idle_by false x = refl

member_by : (b k : Bool) → ((b && k) || false) ≡ (k && b)
member_by true true = refl
member_by true false = refl
member_by false true = refl
member_by false false = refl

pub before_parameter : (p : ℕ) (op : Name) (b : Bool) (r : Role) → ((is_single r || (b && is_member p r)) || is_bodied_parameter p op r)
    ≡ excludes r (Parameter p op b)
before_parameter p op b Whole = idle_by b false
before_parameter p op b Single = refl
before_parameter p op b (Member q) = member_by b (q == p)
before_parameter p op b (Parameter q f c) = idle_by b (q == p && c && same_name f op)
before_parameter p op b (Local q c f) = idle_by b false
before_parameter p op b (Loop q c fs) = idle_by b false

pub before_loop : (p c : ℕ) (ops : List Name) (r : Role) → (((is_single r || is_member p r) || is_asked ops p r) || is_local p c r)
    ≡ excludes r (Loop p c ops)
before_loop p c ops Whole = refl
before_loop p c ops Single = refl
before_loop p c ops (Member q) = sym (or_false (q == p || false)) ∙ sym (or_false (q == p))
before_loop p c ops (Parameter q f b) = sym (or_false (q == p && is_named ops f))
before_loop p c ops (Local q d f) = refl
before_loop p c ops (Loop q d fs) = refl

pub before_body : (p c : ℕ) (op : Name) (r : Role) → (((is_single r || is_member p r) || is_parameter p op r) || is_local p c r)
    ≡ excludes r (Loop p c (op ∷ []))
before_body p c op Whole = refl
before_body p c op Single = refl
before_body p c op (Member q) = sym (or_false (q == p || false)) ∙ sym (or_false (q == p))
before_body p c op (Parameter q f b) =
    sym (or_false (q == p && same_name f op)) ∙ ap (λ z. q == p && z) (nat_list_eq_equiv.symm f op ∙ or_false (same_name op f))
before_body p c op (Local q d f) = refl
before_body p c op (Loop q d fs) = refl

pub before_local : (p c : ℕ) (op : Name) (r : Role) → (((is_single r || is_member p r) || is_parameter p op r) || is_local p c r)
    ≡ excludes r (Local p c op)
before_local p c op Whole = refl
before_local p c op Single = refl
before_local p c op (Member q) = sym (or_false (q == p || false)) ∙ sym (or_false (q == p))
before_local p c op (Parameter q f b) = sym (or_false (q == p && same_name f op))
before_local p c op (Local q d f) = refl
before_local p c op (Loop q d fs) = refl

-- the sets after a further name, by its role
pub whole_added : (r : ℕ → List Name) (t : Taken) (all : Names) (es : List Mention) (name : Name) (open' : List Name) →
    ((n : Name) → has all n ≡ (same_name name n || has t.all n)) →
    Holds r t es → Holds r (record t { all = all }) (record { name = name; role = Whole; open' = open' } ∷ es)
whole_added r t all es name open' all_has h = record {
  requested_in = h.requested_in;
  all_in = λ n. comes (same_name name n) (all_has n) (h.all_in n);
  objects_in = λ n. stays (same_name name n) (h.objects_in n);
  members_in = λ p n. stays (same_name name n) (h.members_in p n);
  bodied_in = λ p n. stays (same_name name n) (h.bodied_in p n);
  parameters_in = λ p o n. stays (same_name name n) (h.parameters_in p o n);
  bodied_parameters_in = λ p o n. stays (same_name name n) (h.bodied_parameters_in p o n);
  asked_in = λ p n. stays (same_name name n) (h.asked_in p n);
  locals_in = λ p c n. stays (same_name name n) (h.locals_in p c n);
}

pub loop_added : (r : ℕ → List Name) (t : Taken) (all : Names) (es : List Mention) (place body : ℕ) (ops : List Name) (name : Name)
    (open' : List Name) →
    ((n : Name) → has all n ≡ (same_name name n || has t.all n)) →
    Holds r t es → Holds r (record t { all = all }) (record { name = name; role = Loop place body ops; open' = open' } ∷ es)
loop_added r t all es place body ops name open' all_has h = record {
  requested_in = h.requested_in;
  all_in = λ n. comes (same_name name n) (all_has n) (h.all_in n);
  objects_in = λ n. stays (same_name name n) (h.objects_in n);
  members_in = λ p n. stays (same_name name n) (h.members_in p n);
  bodied_in = λ p n. stays (same_name name n) (h.bodied_in p n);
  parameters_in = λ p o n. stays (same_name name n) (h.parameters_in p o n);
  bodied_parameters_in = λ p o n. stays (same_name name n) (h.bodied_parameters_in p o n);
  asked_in = λ p n. stays (same_name name n) (h.asked_in p n);
  locals_in = λ p c n. stays (same_name name n) (h.locals_in p c n);
}

pub single_added : (r : ℕ → List Name) (t : Taken) (all : Names) (objects : Names) (es : List Mention) (name : Name) (open' : List Name) →
    ((n : Name) → has all n ≡ (same_name name n || has t.all n)) →
    ((n : Name) → has objects n ≡ (same_name name n || has t.objects n)) →
    Holds r t es → Holds r (record t { all = all; objects = objects }) (record { name = name; role = Single; open' = open' } ∷ es)
single_added r t all objects es name open' all_has objects_has h = record {
  requested_in = h.requested_in;
  all_in = λ n. comes (same_name name n) (all_has n) (h.all_in n);
  objects_in = λ n. comes (same_name name n) (objects_has n) (h.objects_in n);
  members_in = λ p n. stays (same_name name n) (h.members_in p n);
  bodied_in = λ p n. stays (same_name name n) (h.bodied_in p n);
  parameters_in = λ p o n. stays (same_name name n) (h.parameters_in p o n);
  bodied_parameters_in = λ p o n. stays (same_name name n) (h.bodied_parameters_in p o n);
  asked_in = λ p n. stays (same_name name n) (h.asked_in p n);
  locals_in = λ p c n. stays (same_name name n) (h.locals_in p c n);
}

pub member_added : (r : ℕ → List Name) (t : Taken) (all : Names) (members : Keys) (es : List Mention) (place : ℕ) (name : Name) (open' : List Name) →
    ((n : Name) → has all n ≡ (same_name name n || has t.all n)) →
    ((p q : ℕ) (o n : Name) → has_key members p q o n
    ≡ (((place == p && 0 == q) && (same_name [] o && same_name name n)) || has_key t.members p q o n)) →
    Holds r t es → Holds r (record t { all = all; members = members }) (record { name = name; role = Member place; open' = open' } ∷ es)
member_added r t all members es place name open' all_has members_has h = record {
  requested_in = h.requested_in;
  all_in = λ n. comes (same_name name n) (all_has n) (h.all_in n);
  objects_in = λ n. stays (same_name name n) (h.objects_in n);
  members_in = λ p n. comes_at (place == p) (same_name name n) (members_has p 0 [] n) (h.members_in p n);
  bodied_in = λ p n. stays (same_name name n) (h.bodied_in p n);
  parameters_in = λ p o n. stays (same_name name n) (h.parameters_in p o n);
  bodied_parameters_in = λ p o n. stays (same_name name n) (h.bodied_parameters_in p o n);
  asked_in = λ p n. stays (same_name name n) (h.asked_in p n);
  locals_in = λ p c n. stays (same_name name n) (h.locals_in p c n);
}

pub local_added : (r : ℕ → List Name) (t : Taken) (all : Names) (locals : Keys) (es : List Mention) (place body : ℕ) (op : Name) (name : Name)
    (open' : List Name) →
    ((n : Name) → has all n ≡ (same_name name n || has t.all n)) →
    ((p q : ℕ) (o n : Name) → has_key locals p q o n ≡ (((place == p && body == q) && (same_name [] o && same_name name n))
    || has_key t.locals p q o n)) →
    Holds r t es → Holds r (record t { all = all; locals = locals }) (record { name = name; role = Local place body op; open' = open' } ∷ es)
local_added r t all locals es place body op name open' all_has locals_has h = record {
  requested_in = h.requested_in;
  all_in = λ n. comes (same_name name n) (all_has n) (h.all_in n);
  objects_in = λ n. stays (same_name name n) (h.objects_in n);
  members_in = λ p n. stays (same_name name n) (h.members_in p n);
  bodied_in = λ p n. stays (same_name name n) (h.bodied_in p n);
  parameters_in = λ p o n. stays (same_name name n) (h.parameters_in p o n);
  bodied_parameters_in = λ p o n. stays (same_name name n) (h.bodied_parameters_in p o n);
  asked_in = λ p n. stays (same_name name n) (h.asked_in p n);
  locals_in = λ p c n. comes_in (place == p && body == c) (same_name name n) (locals_has p c [] n) (h.locals_in p c n);
}

asked_at : (r : ℕ → List Name) (place p : ℕ) (op : Name) → (place == p) ≡ true → is_named (r place) op ≡ is_named (r p) op
asked_at r place p op e = ap (λ q. is_named (r q) op) (eqb-true place p e)

pub parameter_added : (r : ℕ → List Name) (t : Taken) (all : Names) (parameters bodied bodied_parameters asked : Keys) (es : List Mention) (place : ℕ)
    (op : Name) (has_body is_request : Bool) (name : Name) (open' : List Name) →
    is_request ≡ has_key t.requests place 0 [] op →
    ((n : Name) → has all n ≡ (same_name name n || has t.all n)) →
    ((p q : ℕ) (o n : Name) → has_key parameters p q o n
    ≡ (((place == p && 0 == q) && (same_name op o && same_name name n)) || has_key t.parameters p q o n)) →
    ((p q : ℕ) (o n : Name) → has_key bodied p q o n ≡ ((has_body && ((place == p && 0 == q) && (same_name [] o && same_name name n)))
    || has_key t.bodied p q o n)) →
    ((p q : ℕ) (o n : Name) → has_key bodied_parameters p q o n
    ≡ ((has_body && ((place == p && 0 == q) && (same_name op o && same_name name n))) || has_key t.bodied_parameters p q o n)) →
    ((p q : ℕ) (o n : Name) → has_key asked p q o n ≡ ((is_request && ((place == p && 0 == q) && (same_name [] o && same_name name n)))
    || has_key t.asked p q o n)) →
    Holds r t es → Holds r (record t { all = all; parameters = parameters; bodied = bodied; bodied_parameters = bodied_parameters; asked = asked })
    (record { name = name; role = Parameter place op has_body; open' = open' } ∷ es)
parameter_added r t all parameters bodied bodied_parameters asked es place op has_body is_request name open' requested all_has parameters_has
    bodied_has bodied_parameters_has asked_has h = record {
      requested_in = h.requested_in;
      all_in = λ n. comes (same_name name n) (all_has n) (h.all_in n);
      objects_in = λ n. stays (same_name name n) (h.objects_in n);
      members_in = λ p n. stays (same_name name n) (h.members_in p n);
      bodied_in = λ p n. comes_where has_body (place == p) (same_name name n) (bodied_has p 0 [] n) (h.bodied_in p n);
      parameters_in = λ p o n. comes_of (place == p) (same_name op o) (same_name name n) (parameters_has p 0 o n) (h.parameters_in p o n);
      bodied_parameters_in = λ p o n. comes_where_of has_body (place == p) (same_name op o) (same_name name n) (bodied_parameters_has p 0 o
          n) (h.bodied_parameters_in p o n);
      asked_in = λ p n. comes_asked is_request (place == p) (same_name name n) (is_named (r p) op) (λ e.
          requested ∙ h.requested_in place op ∙ asked_at r place p op e) (asked_has p 0 [] n) (h.asked_in p n);
      locals_in = λ p c n. stays (same_name name n) (h.locals_in p c n);
    }

-- what is added of the requests of an object, operation by operation
mix : (w k s old r : Bool) → (((w && ((k && true) && (true && s))) || old) || (k && r)) ≡ (old || (k && ((w && s) || r)))
mix true true true true r = refl
mix true true true false r = refl
mix true true false true r = refl
mix true true false false r = refl
mix true false s true r = refl
mix true false s false r = refl
mix false k s true r = refl
mix false k s false r = refl

named_by : (w : Bool) (q : Provided) (qs : List Provided) (n : Name) → is_named (map (λ p. p.sig.name) (cond w (q ∷ qs) qs)) n
    ≡ ((w && same_name q.sig.name n) || is_named (map (λ p. p.sig.name) qs) n)
named_by true q qs n = refl
named_by false q qs n = refl

pub request_step : (o : Object) (xs : List code.Provided) (i : ℕ) (x : code.Provided) (place p : ℕ) (n : Name) (wanted new old all : Bool)
    → i < length xs → x ≡ get_or xs i x → wanted ≡ is_request o (provided_of x) →
    new ≡ ((wanted && ((place == p && true) && (true && same_name (provided_of x).sig.name n))) || old) →
    (old || (place == p && is_named (map (λ q. q.sig.name) (filter (is_request o) (map provided_of (drop i xs)))) n)) ≡ all →
    (new || (place == p && is_named (map (λ q. q.sig.name) (filter (is_request o) (map provided_of (drop (i + 1) xs)))) n)) ≡ all
request_step o xs i x place p n wanted new old all inside at w e before =
    let names : List code.Provided → List Name = λ ys. map (λ q. q.sig.name) (filter (is_request o) (map provided_of ys)) in
    let rest = is_named (names (drop (i + 1) xs)) n in
    ap (λ b. b || (place == p && rest)) e
    ∙ ap (λ b. ((b && ((place == p && true) && (true && same_name (provided_of x).sig.name n))) || old) || (place == p && rest)) w
    ∙ mix (is_request o (provided_of x)) (place == p) (same_name (provided_of x).sig.name n) old rest
    ∙ ap (λ b. old || (place == p && b))
    (sym (named_by (is_request o (provided_of x)) (provided_of x) (filter (is_request o) (map provided_of (drop (i + 1) xs))) n))
    ∙ ap (λ ys. old || (place == p && is_named (names ys) n)) (sym (drop_step xs i x inside at)) ∙ before

or_assoc : (a b c : Bool) → ((a || b) || c) ≡ (a || (b || c))
or_assoc true b c = refl
or_assoc false b c = refl

pub requests_end : (o : Object) (xs : List code.Provided) (i place p : ℕ) (n : Name) {b all : Bool} → length xs ≤ i →
    (b || (place == p && is_named (map (λ q. q.sig.name) (filter (is_request o) (map provided_of (drop i xs)))) n)) ≡ all → b ≡ all
requests_end o xs i place p n {b} {all} done before =
    let names : List code.Provided → List Name = λ ys. map (λ q. q.sig.name) (filter (is_request o) (map provided_of ys)) in
    or_false b ∙ ap (λ z. b || z) (sym (and-false (place == p))) ∙ ap (λ ys. b || (place == p && is_named (names ys) n))
    (sym (drop_of_length-le xs done)) ∙ before

-- what is added of the requests of objects, one by one
pub standing_step : (xs : List Standing) (i : ℕ) (s : Standing) (p : ℕ) (n : Name) (new old all : Bool) → i < length xs → s ≡ get_or xs i s →
    new ≡ (old || (i == p && is_named (request_names (object_of s.node.now)) n)) → (old || has_request i (drop i xs) p n) ≡ all →
    (new || has_request (i + 1) (drop (i + 1) xs) p n) ≡ all
standing_step xs i s p n new old all inside at e before =
    let mine = i == p && is_named (request_names (object_of s.node.now)) n in
    ap (λ b. b || has_request (i + 1) (drop (i + 1) xs) p n) e ∙ or_assoc old mine (has_request (i + 1) (drop (i + 1) xs) p n)
    ∙ ap (λ k. old || (mine || has_request k (drop (i + 1) xs) p n)) (add-one i)
    ∙ ap (λ ys. old || has_request i ys p n) (sym (drop_step xs i s inside at)) ∙ before

pub table_end : (xs : List Standing) (i p : ℕ) (n : Name) {b all : Bool} → length xs ≤ i → (b || has_request i (drop i xs) p n) ≡ all → b ≡ all
table_end xs i p n {b} {all} done before = or_false b ∙ ap (λ ys. b || has_request i ys p n) (sym (drop_of_length-le xs done)) ∙ before

apart : (b x : Bool) → b ≡ false → (b && x) ≡ false
apart false x e = refl
apart true x e = absurd (cc)

other_place : (i p : ℕ) → (i ≡ p → ⊥) → (i == p) ≡ false
other_place i p apart = ne_eqb i p apart

same_place : (i : ℕ) → (i == i) ≡ true
same_place i = nat_eq_equiv.refl i

none_before : (i : ℕ) (ss : List Standing) (p : ℕ) (n : Name) → p < i → has_request i ss p n ≡ false
none_before i [] p n low = refl
none_before i (s ∷ ss) p n low =
    ap (λ b. b || has_request (suc i) ss p n) (apart (i == p) (is_named (request_names (object_of s.node.now)) n)
    (other_place i p (λ e. omega (arith, low, e))))
    ∙ none_before (suc i) ss p n (omega (arith, low))

nothing : (n : Name) (k : ℕ) → false ≡ is_named (requests_of (slice_get [] k)) n
nothing n zero = refl
nothing n (suc k) = refl

-- an object at a place has a request of a name
request_at : (i k : ℕ) (ss : List Standing) (p : ℕ) (n : Name) → p ≡ i + k → has_request i ss p n ≡ is_named (requests_of (slice_get ss k)) n
request_at i k [] p n e = nothing n k
request_at i zero (s ∷ ss) p n e =
    let here : p ≡ i = omega (arith, e) in
    ap (λ q. ((i == q) && is_named (request_names (object_of s.node.now)) n) || has_request (suc i) ss p n) here
    ∙ ap (λ b. (b && is_named (request_names (object_of s.node.now)) n) || has_request (suc i) ss p n) (same_place i)
    ∙ ap (λ b. is_named (request_names (object_of s.node.now)) n || b) (none_before (suc i) ss p n (omega (arith, e)))
    ∙ sym (or_false (is_named (request_names (object_of s.node.now)) n))
request_at i (suc k) (s ∷ ss) p n e =
    ap (λ b. b || has_request (suc i) ss p n) (apart (i == p) (is_named (request_names (object_of s.node.now)) n)
    (other_place i p (λ q. omega (arith, e, q))))
    ∙ request_at (suc i) k ss p n (omega (arith, e))

pub request_in : (ss : List Standing) (p : ℕ) (n : Name) → has_request 0 ss p n ≡ is_named (requests_of (slice_get ss p)) n
request_in ss p n = request_at 0 p ss p n (omega arith)

-- the requests of the object that stands here
pub requests_here : (xs : List Standing) (i : ℕ) (s : Standing) → i < length xs → s ≡ get_or xs i s
    → request_names (object_of s.node.now) ≡ requests_of (slice_get xs i)
requests_here xs i s inside at = ap requests_of (sym (slice_get_read xs (length xs) i s refl inside at))
