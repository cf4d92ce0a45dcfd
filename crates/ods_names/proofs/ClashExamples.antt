-- What the definitions on names that are taken hold of, and what breaks each alone.
use Rattle.std.proofs.Common.{◌≡◌, ℕ, ◌||◌, true, false, List, [], ◌∷◌, None, refl, ap}
use Rattle.seq_tree.specs.Names.{Name, is_named}
use Rattle.design_rules.specs.Broken.{V01}
use Rattle.design_rules.specs.Clashes.{Whole, Single, Member, Parameter, Local, Loop, mention, request_names, clashes_after}
use Rattle.name_sets.specs.Sets.{has}
use Rattle.ods_names.specs.Keys.{has_key}
use Rattle.ods_names.specs.Mentions.{requests_of, role_of}
use Rattle.ods_names.specs.Taken.{Holds, is_single, is_member, is_bodied, is_parameter, is_asked, is_bodied_parameter, is_local, names_where}
use Rattle.ods_names.specs.Taken.{has_request, taken_in}
use Rattle.ods_index.specs.Walking.{object_of}
use Rattle.ods_names.specs.declared.mentions.Role.TheVariants as role
use Rattle.ods_names.specs.declared.taken.Taken.{Taken}
use Rattle.ods_index.specs.declared.walk.Standing.{Standing}

-- the role of an object, and that of the design
object_is : is_single Single ≡ true
object_is = refl

design_is_not : is_single Whole ≡ false
design_is_not = refl

-- a datum of the object at this place, and one of another
member_is : is_member 1 (Member 1) ≡ true
member_is = refl

other_member : is_member 1 (Member 0) ≡ false
other_member = refl

-- a parameter of an operation with a body, and of one without
bodied_is : is_bodied 1 (Parameter 1 (97 ∷ []) true) ≡ true
bodied_is = refl

bare_is_not : is_bodied 1 (Parameter 1 (97 ∷ []) false) ≡ false
bare_is_not = refl

-- a parameter of this operation, and of another
parameter_is : is_parameter 1 (97 ∷ []) (Parameter 1 (97 ∷ []) false) ≡ true
parameter_is = refl

other_parameter : is_parameter 1 (97 ∷ []) (Parameter 1 (98 ∷ []) false) ≡ false
other_parameter = refl

-- a parameter of one of these operations, and of none of them
asked_is : is_asked ((98 ∷ []) ∷ (97 ∷ []) ∷ []) 1 (Parameter 1 (97 ∷ []) false) ≡ true
asked_is = refl

none_asked : is_asked ((98 ∷ []) ∷ []) 1 (Parameter 1 (97 ∷ []) false) ≡ false
none_asked = refl

-- a parameter of this operation with a body, and without one
bodied_parameter_is : is_bodied_parameter 1 (97 ∷ []) (Parameter 1 (97 ∷ []) true) ≡ true
bodied_parameter_is = refl

bare_parameter : is_bodied_parameter 1 (97 ∷ []) (Parameter 1 (97 ∷ []) false) ≡ false
bare_parameter = refl

-- a local of this body, and of another
local_is : is_local 1 2 (Local 1 2 (97 ∷ [])) ≡ true
local_is = refl

other_local : is_local 1 2 (Local 1 0 (97 ∷ [])) ≡ false
other_local = refl

-- an object has this name, and none has it where only a datum does
named_object : names_where is_single (mention Whole (97 ∷ []) ∷ mention Single (98 ∷ []) ∷ []) (98 ∷ []) ≡ true
named_object = refl

named_datum : names_where is_single (mention (Member 0) (98 ∷ []) ∷ []) (98 ∷ []) ≡ false
named_datum = refl

-- the loops of a thread are those of the requests of the object at its place, and of no object where there is none
thread_role : (requests : ℕ → List Name) → role_of requests (role.ThreadLoop 3 1) ≡ Loop 3 1 (requests 3)
thread_role requests = refl

no_object : requests_of None ≡ []
no_object = refl

-- the object at a place has a request, and the place behind it has none
one_request : (s : Standing) (n : Name) → is_named (request_names (object_of s.node.now)) n ≡ true → has_request 0 (s ∷ []) 0 n ≡ true
one_request s n e = ap (λ z. z || false) e

none_behind : (s : Standing) (n : Name) → has_request 0 (s ∷ []) 1 n ≡ false
none_behind s n = refl

-- sets without names are those of no names, and one with a name is not
no_names_hold : (t : Taken) → ((n : Name) → has t.all n ≡ false) → ((n : Name) → has t.objects n ≡ false)
    → ((p k : ℕ) (o n : Name) → has_key t.requests p k o n ≡ false) →
    ((p k : ℕ) (o n : Name) → has_key t.members p k o n ≡ false) → ((p k : ℕ) (o n : Name) → has_key t.bodied p k o n ≡ false) →
    ((p k : ℕ) (o n : Name) → has_key t.parameters p k o n ≡ false) → ((p k : ℕ) (o n : Name) → has_key t.bodied_parameters p k o n ≡ false) →
    ((p k : ℕ) (o n : Name) → has_key t.asked p k o n ≡ false) → ((p k : ℕ) (o n : Name) → has_key t.locals p k o n ≡ false) → Holds (λ p. []) t []
no_names_hold t all objects requests members bodied parameters bodied_parameters asked locals = record {
  requested_in = λ p n. requests p 0 [] n;
  all_in = all;
  objects_in = objects;
  members_in = λ p n. members p 0 [] n;
  bodied_in = λ p n. bodied p 0 [] n;
  parameters_in = λ p o n. parameters p 0 o n;
  bodied_parameters_in = λ p o n. bodied_parameters p 0 o n;
  asked_in = λ p n. asked p 0 [] n;
  locals_in = λ p k n. locals p k [] n;
}

one_name_too_many : (requests : ℕ → List Name) (t : Taken) (n : Name) → Holds requests t [] → has t.all n ≡ true → ⊥
one_name_too_many requests t n h e = let none = h.all_in n in absurd (cc)

-- an earlier thing takes the name of an object, and nothing that of the design
taken_by_any : (t : Taken) (n : Name) → has t.all n ≡ true → taken_in t role.Single n ≡ true
taken_by_any t n e = e

design_free : (t : Taken) (n : Name) → taken_in t role.Whole n ≡ false
design_free t n = refl

-- two objects with one name clash, and two with two names do not
two_objects : clashes_after [] (mention Single (97 ∷ []) ∷ mention Single (97 ∷ []) ∷ []) ≡ V01 (97 ∷ []) ∷ []
two_objects = refl

two_names : clashes_after [] (mention Single (97 ∷ []) ∷ mention Single (98 ∷ []) ∷ []) ≡ []
two_names = refl

-- a parameter with the name of a datum clashes where its operation has a body alone
bodied_clash : clashes_after [] (mention (Parameter 0 (98 ∷ []) true) (97 ∷ []) ∷ mention (Member 0) (97 ∷ []) ∷ []) ≡ V01 (97 ∷ []) ∷ []
bodied_clash = refl

bare_shares : clashes_after [] (mention (Parameter 0 (98 ∷ []) false) (97 ∷ []) ∷ mention (Member 0) (97 ∷ []) ∷ []) ≡ []
bare_shares = refl

-- a loop inside another may not have its name, and one behind it may
nested_loops : clashes_after [] (mention (Loop 0 0 []) (97 ∷ []) ∷ record { name = 97 ∷ []; role = Loop 0 0 []; open' = (97 ∷ []) ∷ [] } ∷ [])
    ≡ V01 (97 ∷ []) ∷ []
nested_loops = refl

loops_in_turn : clashes_after [] (mention (Loop 0 0 []) (97 ∷ []) ∷ mention (Loop 0 0 []) (97 ∷ []) ∷ []) ≡ []
loops_in_turn = refl

-- a loop of a thread may not have the name of a parameter of a request, and may have that of another operation
thread_clash : clashes_after [] (mention (Parameter 0 (98 ∷ []) true) (97 ∷ []) ∷ mention (Loop 0 0 ((98 ∷ []) ∷ [])) (97 ∷ []) ∷ [])
    ≡ V01 (97 ∷ []) ∷ []
thread_clash = refl

thread_shares : clashes_after [] (mention (Parameter 0 (98 ∷ []) true) (97 ∷ []) ∷ mention (Loop 0 0 ((99 ∷ []) ∷ [])) (97 ∷ []) ∷ []) ≡ []
thread_shares = refl
