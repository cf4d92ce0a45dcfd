-- Worked examples: which rule is broken first, and what is told of it.
use Rattle.std.specs.Prelude.{◌≡◌, ℕ, ◌<◌, List, [], ◌∷◌, ◌++◌, map, Option, Some, None, slice_get, codes, refl}
use Rattle.std.proofs.Common.{◌≤◌, lit≤, arith, not-suc-le-zero}
use Rattle.seq_tree.specs.Names.{Name}
use Rattle.seq_tree.specs.Expressions.{Number, Variable}
use Rattle.seq_tree.specs.Statements.{Statements, Null, Assign, For, Call, Work}
use Rattle.seq_tree.specs.Faults as fault
use Rattle.seq_tree.specs.declared.tree.OpName.{OpName}
use Rattle.seq_tree.specs.declared.tree.Mode.TheVariants.{In, Out}
use Rattle.ods_tree.specs.Designs.{Provided, Tree, Node, Empty, Design}
use Rattle.ods_tree.specs.declared.design.Kind.TheVariants.{Active, Protected, Sporadic}
use Rattle.ods_tree.specs.declared.design.Constraint.TheVariants.{Aser, Hser}
use Rattle.ods_tree.specs.declared.design.AttrKey.TheVariants.{Period, Deadline, ThreadBudget}
use Rattle.ods_tree.proofs.Shared.Short.{attr, cyc, cyc_with, spo, pro, pas, trees, block, call, design, several}
use Rattle.ods_tree.proofs.Shared.Mine.{mine}
use Rattle.ada_tree.specs.Words.{is_ada_name}
use Rattle.design_rules.specs.Broken.{Broken, V01, V02, V03, V04, V08, V09Calls, V10, V13, V14}
use Rattle.design_rules.specs.Versions.{version_faults}
use Rattle.design_rules.specs.Clashes.{clashes}
use Rattle.design_rules.specs.Words.{kept_names}
use Rattle.design_rules.specs.Includes.{bad_includes}
use Rattle.design_rules.specs.Operations.{bad_operations}
use Rattle.design_rules.specs.Fittings.{bad_fittings}
use Rattle.design_rules.specs.Uses.{strangers, absent, forbidden}
use Rattle.design_rules.specs.Rings.{IsOnCallRing, IsOnObjectRing, IsOnStartRing}
use Rattle.design_rules.specs.Sources.{bad_sources}
use Rattle.design_rules.specs.Numbers.{bad_numbers}
use Rattle.design_rules.specs.Bodies.{idle_actives, bad_bodies}
use Rattle.design_rules.specs.Budgets.{bad_budgets, bad_sizes}
use Rattle.design_rules.specs.Separations.{bad_separations}
use Rattle.design_rules.specs.Rules.{Rule, Version, Clash, KeptName, Include, Operation, Fitting, Stranger, Absence, Use, CallRing, ObjectRing}
use Rattle.design_rules.specs.Rules.{StartRing, Source, Number, IdleActive, BodyFault, Budget, Size, Spacing, Offends, IsFirstBroken, number_of}

-- what is broken of the rules before rings, and of those after them
abbrev pub before_rings : Design → List Broken
before_rings x =
    clashes x ++ (kept_names x ++ (bad_includes x ++ (bad_operations x ++ (bad_fittings x ++ (strangers x ++ (absent x ++ forbidden x))))))

abbrev pub after_rings : Design → List Broken
after_rings x =
    bad_sources x ++ (bad_numbers x ++ (idle_actives x ++ (bad_bodies x ++ (bad_budgets x ++ (bad_sizes x ++ bad_separations x)))))

abbrev pub first : List Broken → Option Broken
first [] = None
first (b ∷ bs) = Some b

abbrev a : Name
a = codes "a"

-- two objects of one name
same_names : first (before_rings (several (cyc a 10 10 (Work 3 ∷ []) ∷ cyc a 10 10 (Work 3 ∷ []) ∷ []))) ≡ Some (V01 a)
unfolding is_ada_name
same_names = refl

-- a sporadic object with these requests
abbrev request : Name → List Name → Provided
request name params = record { sig = record { name = name; params = map (λ n. record { name = n; mode = In }) params }; constraint = Some Aser }

abbrev requested_by : List Provided → Option Statements → Design
requested_by provides thread = design (Node (record {
  name = codes "s";
  kind = Sporadic;
  attrs = [];
  provides = provides;
  needs = [];
  vars = [];
  bodies = [];
  thread = thread;
  links = [];
}) Empty)

abbrev nothing : Option Statements
nothing = Some (block (Null ∷ []))

-- the thread is the body of each request, so that a parameter of the second may not have the name of the first; this is told first
clash_of_two_requests : first (before_rings (requested_by (request a [] ∷ request (codes "b") (a ∷ []) ∷ []) nothing)) ≡ Some (V01 a)
unfolding is_ada_name
clash_of_two_requests = refl

-- nor may a loop of the thread have the name of a parameter of the second
loop_and_second_parameter : clashes (requested_by (request a (codes "v" ∷ []) ∷ request (codes "b") (codes "w" ∷ []) ∷ [])
    (Some (block (For (codes "w") 1 2 (block (Null ∷ [])) ∷ [])))) ≡ V01 (codes "w") ∷ []
loop_and_second_parameter = refl

-- as parameters of two bodies theirs may have one name, and then there is one request too many
one_request_too_many : before_rings (requested_by (request a (codes "v" ∷ []) ∷ request (codes "b") (codes "v" ∷ []) ∷ []) nothing)
    ≡ V04 (codes "s") ∷ []
unfolding is_ada_name
one_request_too_many = refl

-- without a thread no request has a body
requests_without_thread : clashes (requested_by (request a [] ∷ request (codes "b") (a ∷ []) ∷ []) None) ≡ []
requests_without_thread = refl

reserved_name : first (before_rings (design (cyc (codes "task") 10 10 (Work 3 ∷ [])))) ≡ Some (V02 (codes "task"))
unfolding is_ada_name
reserved_name = refl

-- a cyclic object that calls a server
abbrev server : Tree
server = Node (record {
  name = codes "srv";
  kind = Active;
  attrs = [];
  provides = record { sig = record { name = codes "get"; params = record { name = codes "v"; mode = Out } ∷ [] }; constraint = Some Hser } ∷ [];
  needs = [];
  vars = [];
  bodies = record { name = codes "get"; locals = []; block = block (Assign (codes "v") (Number 1) ∷ []) } ∷ [];
  thread = None;
  links = [];
}) Empty

cyclic_calls_server : before_rings
    (several (server ∷ cyc_with a (attr Period 10 ∷ attr Deadline 10 ∷ attr ThreadBudget 1000 ∷ []) (codes "x" ∷ [])
    (Call (codes "srv") (codes "get") (Variable (codes "x") ∷ []) ∷ []) ∷ []))
    ≡ V08 a (record { object = codes "srv"; op = codes "get" }) ∷ []
unfolding is_ada_name
cyclic_calls_server = refl

-- a protected object with two protected children
abbrev twins : Design
twins = several (Node (record {
  name = codes "m";
  kind = Protected;
  attrs = [];
  provides = [];
  needs = [];
  vars = [];
  bodies = [];
  thread = None;
  links = [];
})
    (trees (pro (codes "q1") (codes "set") (Work 1 ∷ []) ∷ pro (codes "q2") (codes "set") (Work 1 ∷ []) ∷ [])) ∷ [])

two_protected_children : first (before_rings twins) ≡ Some (V03 (codes "m"))
unfolding is_ada_name
two_protected_children = refl

-- a ring of two calls
abbrev ring : Design
ring = several (pas (codes "p") (codes "f") (call (codes "q") (codes "g") ∷ []) ∷ pas (codes "q") (codes "g")
    (call (codes "p") (codes "f") ∷ []) ∷ [])

abbrev p_f : OpName
p_f = record { object = codes "p"; op = codes "f" }

abbrev q_g : OpName
q_g = record { object = codes "q"; op = codes "g" }

none_listed : (xs : List Broken) (n : ℕ) (told : Broken) → xs ≡ [] → slice_get xs n ≡ Some told → ⊥
none_listed [] n told e h = cc
none_listed (x ∷ xs) n told e h = cc

-- a rule below this number isn't broken where no list before rings has an offender, and no ring of a lower kind, nor a wrong source, is there
pub none_before : (limit : ℕ) (written x : Design) → limit ≤ 13 → version_faults written ≡ [] → before_rings x ≡ []
    → ((op : OpName) → 9 < limit → IsOnCallRing x op → ⊥) → ((name : Name) → 10 < limit → IsOnObjectRing x name → ⊥)
    → ((name : Name) → 11 < limit → IsOnStartRing x name → ⊥) → (12 < limit → bad_sources x ≡ [])
    → (r : Rule) (n : ℕ) (told : Broken) → number_of r < limit → Offends written x r n told → ⊥
none_before limit written x m v e no_calls no_objects no_starts sources = lower
  where
    no_front : (xs ys : List Broken) → xs ++ ys ≡ [] → (xs ≡ []) × (ys ≡ [])
    no_front [] ys h = (refl, h)
    no_front (x ∷ xs) ys h = cc

    c : (clashes x ≡ []) × (kept_names x
        ++ (bad_includes x ++ (bad_operations x ++ (bad_fittings x ++ (strangers x ++ (absent x ++ forbidden x))))) ≡ [])
    c = no_front (clashes x) _ e

    k : (kept_names x ≡ []) × (bad_includes x ++ (bad_operations x ++ (bad_fittings x ++ (strangers x ++ (absent x ++ forbidden x)))) ≡ [])
    k = no_front (kept_names x) _ c.1

    i : (bad_includes x ≡ []) × (bad_operations x ++ (bad_fittings x ++ (strangers x ++ (absent x ++ forbidden x))) ≡ [])
    i = no_front (bad_includes x) _ k.1

    o : (bad_operations x ≡ []) × (bad_fittings x ++ (strangers x ++ (absent x ++ forbidden x)) ≡ [])
    o = no_front (bad_operations x) _ i.1

    f : (bad_fittings x ≡ []) × (strangers x ++ (absent x ++ forbidden x) ≡ [])
    f = no_front (bad_fittings x) _ o.1

    s : (strangers x ≡ []) × (absent x ++ forbidden x ≡ [])
    s = no_front (strangers x) _ f.1

    a' : (absent x ≡ []) × (forbidden x ≡ [])
    a' = no_front (absent x) _ s.1

    lower : (r : Rule) (n : ℕ) (told : Broken) → number_of r < limit → Offends written x r n told → ⊥
    lower Version n told h l = none_listed _ n told v l
    lower Clash n told h l = none_listed _ n told c.0 l
    lower KeptName n told h l = none_listed _ n told k.0 l
    lower Include n told h l = none_listed _ n told i.0 l
    lower Operation n told h l = none_listed _ n told o.0 l
    lower Fitting n told h l = none_listed _ n told f.0 l
    lower Stranger n told h l = none_listed _ n told s.0 l
    lower Absence n told h l = none_listed _ n told a'.0 l
    lower Use n told h l = none_listed _ n told a'.1 l
    lower CallRing n told h l = no_calls l.op h l.ring
    lower ObjectRing n told h l = no_objects l.object.name h l.ring
    lower StartRing n told h l = no_starts l.thread.name h l.ring
    lower Source n told h l = none_listed _ n told (sources h) l
    lower Number n told h l = omega (arith, h, m)
    lower IdleActive n told h l = omega (arith, h, m)
    lower BodyFault n told h l = omega (arith, h, m)
    lower Budget n told h l = omega (arith, h, m)
    lower Size n told h l = omega (arith, h, m)
    lower Spacing n told h l = omega (arith, h, m)

ring_of_calls : IsFirstBroken ring (V09Calls p_f)
unfolding is_ada_name
ring_of_calls = record {
  rule = CallRing;
  place = 0;
  offends = record { op = p_f; stands = refl; ring = (q_g ∷ [], (refl, refl)); tells = refl };
  none_lower = none_before 9 ring ring (lit≤ tt) refl refl (λ op h r. omega (arith, h)) (λ name h r. omega (arith, h)) (λ name h r.
      omega (arith, h)) (λ h. refl);
  none_earlier = λ earlier others h o. absurd (not-suc-le-zero h);
}

-- a thread that starts another twice
abbrev twice : Design
twice = several (cyc (codes "p") 50 50 (Call (codes "s") (codes "start") (Number 7 ∷ []) ∷ Call (codes "s") (codes "start") (Number 8 ∷ []) ∷ [])
    ∷ spo (codes "s") 50 20 (Work 4 ∷ []) ∷ [])

started_twice : before_rings twice ++ after_rings twice ≡ V10 (codes "s") 1 2 ∷ []
unfolding is_ada_name
started_twice = refl

-- a budget that is too small, and one that isn't
abbrev budget : ℕ → Design
budget n = design (cyc_with a (attr Period 50 ∷ attr Deadline 50 ∷ attr ThreadBudget n ∷ []) [] (Work 11 ∷ []))

budget_broken : before_rings (budget 10) ++ after_rings (budget 10) ≡ V14 a 12 10 ∷ []
unfolding is_ada_name
budget_broken = refl

budget_kept : before_rings (budget 12) ++ after_rings (budget 12) ≡ []
unfolding is_ada_name
budget_kept = refl

-- an unknown variable
unknown_variable : before_rings (design (cyc a 10 10 (Assign (codes "y") (Number 1) ∷ [])))
    ++ after_rings (design (cyc a 10 10 (Assign (codes "y") (Number 1) ∷ [])))
    ≡ V13 a None fault.Unknown ∷ []
unfolding is_ada_name
unknown_variable = refl

-- the mine pump breaks none of them
mine-before_rings : before_rings mine ≡ []
unfolding is_ada_name
mine-before_rings = refl

mine-after_rings : after_rings mine ≡ []
unfolding is_ada_name
mine-after_rings = refl
