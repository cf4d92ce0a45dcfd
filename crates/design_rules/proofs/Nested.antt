-- Examples of protected objects that call each other or request sporadic objects.
use Rattle.std.specs.Prelude.{◌≡◌, ◌⊎◌, ◌&&◌, ◌||◌, Bool, true, false, List, [], ◌∷◌, ◌++◌, map, Some, None, codes, refl}
use Rattle.std.specs.List.{list_any}
use Rattle.std.proofs.Common.{lit≤, arith, not-suc-le-zero, inl, inr, sym, ap, subst, ◌∙◌}
use Prim.Native.String.{String}
use Rattle.std.proofs.lemmas.Slice.Eq.{bytes_eq-Decides}
use Rattle.seq_tree.specs.Names.{Name, same_name}
use Rattle.seq_tree.specs.Calls.{same_op}
use Rattle.ods_tree.specs.Walk.{terminals, own_of}
use Rattle.seq_tree.specs.Expressions.{Number}
use Rattle.seq_tree.specs.Statements.{Statement, Null, Call, For, Work}
use Rattle.seq_tree.specs.declared.tree.OpName.{OpName}
use Rattle.ods_tree.specs.Designs.{Provided, Body, Object, Tree, Node, Empty, Design}
use Rattle.ods_tree.specs.declared.design.Kind.TheVariants.{Protected, Cyclic}
use Rattle.ods_tree.specs.declared.design.Constraint.TheVariants.{Aser, Hser, Pser, Paer}
use Rattle.ods_tree.proofs.Shared.Short.{needs_of, block, cyc, spo, pro, pas, trees, several, call}
use Rattle.design_rules.specs.Broken.{V08, V09Calls, V09Objects, V09Starts, V10, V16}
use Rattle.design_rules.specs.Uses.{may_call, forbidden}
use Rattle.design_rules.specs.Sources.{bad_sources, requests_by}
use Rattle.design_rules.specs.Separations.{bad_separations}
use Rattle.design_rules.specs.Rings.{meant_calls, operation_calls, calls_from, CallsOp, IsOnCallRing, protected_objects, calls_object}
use Rattle.design_rules.specs.Rings.{CallsObject, IsOnObjectRing, thread_objects, can_start, StartsThread, IsOnStartRing}
use Rattle.design_rules.specs.Rules.{Offends, CallRing, ObjectRing, StartRing, IsFirstBroken}
use Rattle.design_rules.proofs.Shared.Rows.{before_rings, after_rings, none_before}
use Rattle.seq_tree.proofs.Shared.Rounds.{ring-both, OneOf, one-both, from-chosen}
use Rattle.seq_tree.proofs.Shared.Walks.{same_op-eq}
use Rattle.ada_tree.specs.Words.{is_ada_name}

abbrev op : String → String → OpName
op object op' = record { object = codes object; op = codes op' }

abbrev start : Statement
start = Call (codes "s") (codes "start") (Number 7 ∷ [])

-- the row of the use table
protected_row : map (may_call Protected) (None ∷ Some Pser ∷ Some Paer ∷ Some Aser ∷ Some Hser ∷ [])
    ≡ map (may_call Cyclic) (None ∷ Some Pser ∷ Some Paer ∷ Some Aser ∷ Some Hser ∷ [])
protected_row = refl

-- a protected object may call another and request a sporadic one, a passive one may not
abbrev accepted : Design
accepted = several (cyc (codes "l") 40 40 (call (codes "q") (codes "set") ∷ [])
    ∷ pro (codes "q") (codes "set") (call (codes "e") (codes "set") ∷ start ∷ []) ∷ pro (codes "e") (codes "set") (Work 2 ∷ [])
    ∷ spo (codes "s") 20 20 (Work 1 ∷ []) ∷ [])

accepted_by_lists : before_rings accepted ++ after_rings accepted ≡ []
unfolding is_ada_name
accepted_by_lists = refl

-- a step between things by their names, as the rings of protected objects and of threads have it
abbrev pub Steps : {A : Type 0} → (A → Name) → (A → A → Bool) → List A → Name → Name → Type 0
Steps name leads xs from to = OneOf (λ f. (same_name (name f) from ≡ true) × OneOf (λ g. (same_name (name g) to ≡ true) × (leads f g ≡ true)) xs) xs

pub step-between : {A : Type 0} (name : A → Name) (leads : A → A → Bool) (xs : List A) (from to : Name)
    → list_any (λ f. same_name (name f) from && list_any (λ g. same_name (name g) to && leads f g) xs) xs ≡ true → Steps name leads xs from to
step-between {A} name leads xs from to h = one-both (λ f. same_name (name f) from) (λ f. list_any (λ g. same_name (name g) to && leads f g) xs)
    (λ f. OneOf (λ g. (same_name (name g) to ≡ true) × (leads f g ≡ true)) xs)
    (λ f k. one-both (λ g. same_name (name g) to) (leads f) (λ g. leads f g ≡ true) (λ g l. l) xs k) xs h

names-differ : (a b c : Name) → same_name b a ≡ false → same_name a c ≡ true → same_name b c ≡ true → ⊥
names-differ a b c e h k =
    let P : Name → Type 0 = λ y. same_name b y ≡ true in
    let z : false ≡ true = sym e ∙ subst P (sym ((bytes_eq-Decides a c).0 h)) k in cc

-- of its protected objects q alone calls another, e, which calls none
no_ring_of_objects : (name : Name) → IsOnObjectRing accepted name → ⊥
no_ring_of_objects name r = (let b = ring-both (CallsObject accepted) (λ n. same_name (codes "q") n ≡ true) (λ n. same_name (codes "e") n
    ≡ true) step name r in names-differ (codes "q") (codes "e") name refl b.0 b.1)
  where
    by : (from to : Name) → Steps (λ o. o.name) (calls_object accepted) (protected_objects accepted) from to
        → (same_name (codes "q") from ≡ true) × (same_name (codes "e") to ≡ true)
    by from to (inl (f, inl (g, l))) = (let z : false ≡ true = l in cc)
    by from to (inl (f, inr (inl (g, l)))) = (f, g)
    by from to (inl (f, inr (inr k))) = absurd k
    by from to (inr (inl (f, inl (g, l)))) = (let z : false ≡ true = l in cc)
    by from to (inr (inl (f, inr (inl (g, l))))) = (let z : false ≡ true = l in cc)
    by from to (inr (inl (f, inr (inr k)))) = absurd k
    by from to (inr (inr k)) = absurd k

    step : (from to : Name) → CallsObject accepted from to → (same_name (codes "q") from ≡ true) × (same_name (codes "e") to ≡ true)
    step from to h = by from to (step-between (λ o. o.name) (calls_object accepted) (protected_objects accepted) from to h)

-- of its threads l alone can start another, s, which can start none
no_ring_of_starts : (name : Name) → IsOnStartRing accepted name → ⊥
no_ring_of_starts name r = (let b = ring-both (StartsThread accepted) (λ n. same_name (codes "l") n ≡ true) (λ n. same_name (codes "s") n
    ≡ true) step name r in names-differ (codes "l") (codes "s") name refl b.0 b.1)
  where
    by : (from to : Name) → Steps (λ o. o.name) (can_start accepted) (thread_objects accepted) from to
        → (same_name (codes "l") from ≡ true) × (same_name (codes "s") to ≡ true)
    by from to (inl (f, inl (g, l))) = (let z : false ≡ true = l in cc)
    by from to (inl (f, inr (inl (g, l)))) = (f, g)
    by from to (inl (f, inr (inr k))) = absurd k
    by from to (inr (inl (f, inl (g, l)))) = (let z : false ≡ true = l in cc)
    by from to (inr (inl (f, inr (inl (g, l))))) = (let z : false ≡ true = l in cc)
    by from to (inr (inl (f, inr (inr k)))) = absurd k
    by from to (inr (inr k)) = absurd k

    step : (from to : Name) → StartsThread accepted from to → (same_name (codes "l") from ≡ true) × (same_name (codes "s") to ≡ true)
    step from to h = by from to (step-between (λ o. o.name) (can_start accepted) (thread_objects accepted) from to h)

passive_may_not : forbidden (several (pas (codes "p") (codes "f") (call (codes "e") (codes "set") ∷ []) ∷ pro (codes "e") (codes "set") (Work 2 ∷ [])
    ∷ [])) ≡ V08 (codes "p") (op "e" "set") ∷ []
passive_may_not = refl

-- a ring of protected operations
abbrev ring : Design
ring = several (pro (codes "q") (codes "f") (call (codes "e") (codes "g") ∷ []) ∷ pro (codes "e") (codes "g")
    (call (codes "q") (codes "f") ∷ []) ∷ [])

ring_of_operations : Offends ring ring CallRing 0 (V09Calls (op "q" "f"))
ring_of_operations = record { op = _; stands = refl; ring = (op "e" "g" ∷ [], (refl, refl)); tells = refl }

ring_of_operations_first : IsFirstBroken ring (V09Calls (op "q" "f"))
unfolding is_ada_name
ring_of_operations_first = record {
  rule = CallRing;
  place = 0;
  offends = ring_of_operations;
  none_lower = none_before 9 ring ring (lit≤ tt) refl refl (λ op' h r. omega (arith, h)) (λ name h r. omega (arith, h)) (λ name h r.
      omega (arith, h)) (λ h. refl);
  none_earlier = λ earlier others h o. absurd (not-suc-le-zero h);
}

-- a ring of protected objects, where their operations make none
abbrev provided : String → Provided
provided name = record { sig = record { name = codes name; params = [] }; constraint = Some Paer }

abbrev body : String → List Statement → Body
body name ss = record { name = codes name; locals = []; block = block ss }

abbrev two_ops : String → String → List Statement → String → List Statement → Tree
two_ops name f fs g gs = Node (record {
  name = codes name;
  kind = Protected;
  attrs = [];
  provides = provided f ∷ provided g ∷ [];
  needs = needs_of (block (fs ++ gs));
  vars = [];
  bodies = body f fs ∷ body g gs ∷ [];
  thread = None;
  links = [];
}) Empty

abbrev objects_ring : Design
objects_ring = several (two_ops "q" "a" (call (codes "e") (codes "x") ∷ []) "b" (Null ∷ [])
    ∷ two_ops "e" "x" (Null ∷ []) "y" (call (codes "q") (codes "b") ∷ []) ∷ [])

ring_of_objects : Offends objects_ring objects_ring ObjectRing 0 (V09Objects (codes "q"))
ring_of_objects = record { object = _; stands = refl; ring = (codes "e" ∷ [], (refl, refl)); tells = refl }

-- the operations that call, and those that are called
calls_of_operations : map (calls_from objects_ring) (op "q" "a" ∷ op "q" "b" ∷ op "e" "x" ∷ op "e" "y" ∷ [])
    ≡ (op "e" "x" ∷ []) ∷ [] ∷ [] ∷ (op "q" "b" ∷ []) ∷ []
calls_of_operations = refl

-- an operation that calls is q.a or e.y, one that is called e.x or q.b, and so none is on a ring
abbrev Caller : OpName → Type 0
Caller o = (same_name (codes "a") o.op ≡ true) ⊎ (same_name (codes "y") o.op ≡ true)

abbrev Called : OpName → Type 0
Called o = (same_op o (op "e" "x") ≡ true) ⊎ (same_op o (op "q" "b") ≡ true)

abbrev of_q : Object
of_q = own_of (two_ops "q" "a" (call (codes "e") (codes "x") ∷ []) "b" (Null ∷ []))

abbrev of_e : Object
of_e = own_of (two_ops "e" "x" (Null ∷ []) "y" (call (codes "q") (codes "b") ∷ []))

a_call : (from to : OpName) → CallsOp objects_ring from to → Caller from × Called to
a_call from to h = by (from-chosen (same_op to) (λ s. operation_calls objects_ring s.own from.op) (λ s. same_name s.own.name from.object)
    (terminals objects_ring) h)
  where
    alone : (b : Bool) → (b || false) ≡ true → b ≡ true
    alone true h = refl
    alone false h = cc

    in_q : OneOf (λ b. (same_name b.name from.op ≡ true) × (list_any (same_op to) (meant_calls objects_ring of_q b.block) ≡ true)) of_q.bodies
        → Caller from × Called to
    in_q (inl k) = (inl k.0, inl (alone _ k.1))
    in_q (inr (inl k)) = (let z : false ≡ true = k.1 in cc)
    in_q (inr (inr k)) = absurd k

    in_e : OneOf (λ b. (same_name b.name from.op ≡ true) × (list_any (same_op to) (meant_calls objects_ring of_e b.block) ≡ true)) of_e.bodies
        → Caller from × Called to
    in_e (inl k) = (let z : false ≡ true = k.1 in cc)
    in_e (inr (inl k)) = (inr k.0, inr (alone _ k.1))
    in_e (inr (inr k)) = absurd k

    by : OneOf (λ s. (same_name s.own.name from.object ≡ true) × (list_any (same_op to) (operation_calls objects_ring s.own from.op) ≡ true))
        (terminals objects_ring) → Caller from × Called to
    by (inl k) = in_q (from-chosen (same_op to) (λ b. meant_calls objects_ring of_q b.block) (λ b. same_name b.name from.op) of_q.bodies k.1)
    by (inr (inl k)) = in_e (from-chosen (same_op to) (λ b. meant_calls objects_ring of_e b.block) (λ b. same_name b.name from.op) of_e.bodies k.1)
    by (inr (inr k)) = absurd k

no_ring_of_operations : (o : OpName) → IsOnCallRing objects_ring o → ⊥
no_ring_of_operations o r = by (ring-both (CallsOp objects_ring) Caller Called a_call o r)
  where
    by : Caller o × Called o → ⊥
    by (inl c, inl d) = (let z : false ≡ true = sym (ap (λ y. same_name (codes "a") y.op) (same_op-eq o (op "e" "x") d)) ∙ c in cc)
    by (inl c, inr d) = (let z : false ≡ true = sym (ap (λ y. same_name (codes "a") y.op) (same_op-eq o (op "q" "b") d)) ∙ c in cc)
    by (inr c, inl d) = (let z : false ≡ true = sym (ap (λ y. same_name (codes "y") y.op) (same_op-eq o (op "e" "x") d)) ∙ c in cc)
    by (inr c, inr d) = (let z : false ≡ true = sym (ap (λ y. same_name (codes "y") y.op) (same_op-eq o (op "q" "b") d)) ∙ c in cc)

first_of_objects : IsFirstBroken objects_ring (V09Objects (codes "q"))
unfolding is_ada_name
first_of_objects = record {
  rule = ObjectRing;
  place = 0;
  offends = ring_of_objects;
  none_lower = none_before 10 objects_ring objects_ring (lit≤ tt) refl refl (λ op' h r. no_ring_of_operations op' r) (λ name h r.
      omega (arith, h)) (λ name h r. omega (arith, h)) (λ h. refl);
  none_earlier = λ earlier others h o. absurd (not-suc-le-zero h);
}

-- the same ring where q calls an operation of an object with e inside, which a link hands on to e
abbrev linked_ring : Design
linked_ring = several (two_ops "q" "a" (call (codes "m") (codes "x") ∷ []) "b" (Null ∷ [])
    ∷ Node (record {
      name = codes "m";
      kind = Protected;
      attrs = [];
      provides = provided "x" ∷ [];
      needs = op "q" "b" ∷ [];
      vars = [];
      bodies = [];
      thread = None;
      links = record { op = codes "x"; to = op "e" "x" } ∷ [];
    }) (trees (two_ops "e" "x" (Null ∷ []) "y" (call (codes "q") (codes "b") ∷ []) ∷ [])) ∷ [])

linked_fits : before_rings linked_ring ≡ []
unfolding is_ada_name
linked_fits = refl

ring_by_links : Offends linked_ring linked_ring ObjectRing 0 (V09Objects (codes "q"))
ring_by_links = record { object = _; stands = refl; ring = (codes "e" ∷ [], (refl, refl)); tells = refl }

-- a thread starts another through a protected operation
abbrev through : Design
through = several (cyc (codes "p") 50 50 (call (codes "q") (codes "set") ∷ []) ∷ pro (codes "q") (codes "set") (start ∷ [])
    ∷ spo (codes "s") 50 20 (Work 4 ∷ []) ∷ [])

meets : before_rings through ++ after_rings through ≡ []
unfolding is_ada_name
meets = refl

-- a ring of starts through it
abbrev starts_itself : Design
starts_itself = several (spo (codes "s") 50 50 (call (codes "q") (codes "set") ∷ []) ∷ pro (codes "q") (codes "set") (start ∷ []) ∷ [])

ring_through : Offends starts_itself starts_itself StartRing 0 (V09Starts (codes "s"))
ring_through = record { thread = _; stands = refl; ring = ([], refl); tells = refl }

-- two requests on a path, one of them through a protected operation
twice : bad_sources (several (cyc (codes "p") 50 50 (call (codes "q") (codes "set") ∷ start ∷ []) ∷ pro (codes "q") (codes "set") (start ∷ [])
    ∷ spo (codes "s") 50 20 (Work 4 ∷ []) ∷ []))
    ≡ V10 (codes "s") 1 2 ∷ []
twice = refl

-- two threads, each through it
two_sources : bad_sources (several (cyc (codes "p") 50 50 (call (codes "q") (codes "set") ∷ [])
    ∷ cyc (codes "o") 50 50 (call (codes "q") (codes "set") ∷ []) ∷ pro (codes "q") (codes "set") (start ∷ [])
    ∷ spo (codes "s") 50 20 (Work 4 ∷ []) ∷ []))
    ≡ V10 (codes "s") 2 1 ∷ []
two_sources = refl

-- two requests on a path, two protected operations deep
twice_deep : bad_sources (several (cyc (codes "p") 50 50 (call (codes "q") (codes "set") ∷ [])
    ∷ pro (codes "q") (codes "set") (call (codes "e") (codes "set") ∷ [])
    ∷ pro (codes "e") (codes "set") (start ∷ start ∷ []) ∷ spo (codes "s") 50 20 (Work 4 ∷ []) ∷ [])) ≡ V10 (codes "s") 1 2 ∷ []
twice_deep = refl

-- calls that aren't required are passed over
unrequired : bad_sources (several (cyc (codes "p") 50 50 (start ∷ [])
    ∷ Node (record (own_of (cyc (codes "o") 50 50 (start ∷ start ∷ []))) { needs = [] }) Empty ∷ spo (codes "s") 50 20 (Work 4 ∷ []) ∷ [])) ≡ []
unrequired = refl

-- requests inside nested loops, through two operations
counted : map (requests_by (several (pro (codes "q") (codes "set") (start ∷ start ∷ []) ∷ spo (codes "s") 50 20 (Work 4 ∷ []) ∷ [])) (codes "s"))
    (thread_objects (several (cyc (codes "p") 50 50 (For (codes "i") 1 3 (block (call (codes "q") (codes "set") ∷ [])) ∷ []) ∷ []))) ≡ 6 ∷ []
counted = refl

-- a starter that is too quick, through it
too_quick : bad_separations (several (cyc (codes "p") 40 40 (call (codes "q") (codes "set") ∷ []) ∷ pro (codes "q") (codes "set") (start ∷ [])
    ∷ spo (codes "s") 50 20 (Work 4 ∷ []) ∷ []))
    ≡ V16 (codes "p") 40 (codes "s") 50 ∷ []
too_quick = refl
