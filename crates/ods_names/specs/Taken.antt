-- The names that are taken so far, in sets: each has the names of those earlier things that have one sort of role.
-- A later name clashes where one of the sets of its own role has it, or a loop that is open.
use Rattle.std.specs.Prelude.{◌≡◌, ℕ, suc, Bool, true, false, ◌&&◌, ◌||◌, ◌==◌, List, [], ◌∷◌}
use Rattle.std.specs.List.{list_any}
use Rattle.seq_tree.specs.Names.{Name, same_name, is_named}
use Rattle.name_sets.specs.Sets.{has}
use Rattle.design_rules.specs.Clashes.{Role, Mention, Single, Member, Parameter, Local, request_names}
use Rattle.ods_names.specs.Keys.{has_key}
use Rattle.ods_index.specs.Walking.{object_of}
use Rattle.ods_names.specs.declared.mentions.Role as roles
use Rattle.ods_names.specs.declared.mentions.Role.TheVariants as role
use Rattle.ods_names.specs.declared.taken.Taken.{Taken}
use Rattle.ods_index.specs.declared.walk.Standing.{Standing}

-- whether a role is that of an object
abbrev pub is_single : Role → Bool
is_single Single = true
is_single _ = false

-- whether it is that of an operation or datum of the object at a place
abbrev pub is_member : ℕ → Role → Bool
is_member place (Member other) = other == place
is_member place _ = false

-- whether it is that of a parameter, in the object at a place, of an operation with a body
abbrev pub is_bodied : ℕ → Role → Bool
is_bodied place (Parameter other op bodied) = other == place && bodied
is_bodied place _ = false

-- whether it is that of a parameter of this operation of the object at a place
abbrev pub is_parameter : ℕ → Name → Role → Bool
is_parameter place op (Parameter other f bodied) = other == place && same_name f op
is_parameter place op _ = false

-- whether it is that of a parameter, in the object at a place, of one of these operations
abbrev pub is_asked : List Name → ℕ → Role → Bool
is_asked ops place (Parameter other f bodied) = other == place && is_named ops f
is_asked ops place _ = false

-- whether it is that of a parameter of this operation, which has a body
abbrev pub is_bodied_parameter : ℕ → Name → Role → Bool
is_bodied_parameter place op (Parameter other f bodied) = other == place && bodied && same_name f op
is_bodied_parameter place op _ = false

-- whether it is that of a local of this body of the object at a place
abbrev pub is_local : ℕ → ℕ → Role → Bool
is_local place body (Local other number op) = other == place && number == body
is_local place body _ = false

-- whether an earlier thing with such a role has a name
abbrev pub names_where : (Role → Bool) → List Mention → Name → Bool
names_where sort earlier name = list_any (λ e. same_name e.name name && sort e.role) earlier

-- whether an object at a place has a request of a name, by the objects from a place on
abbrev pub has_request : ℕ → List Standing → ℕ → Name → Bool
has_request from [] place n = false
has_request from (s ∷ ss) place n = (from == place && is_named (request_names (object_of s.node.now)) n) || has_request (suc from) ss place n

-- the sets are those of the earlier things, and of the requests of the object at each place
pub record Holds (requests : ℕ → List Name) (t : Taken) (earlier : List Mention) : Type 0 where
  pub requested_in : (place : ℕ) (n : Name) → has_key t.requests place 0 [] n ≡ is_named (requests place) n
  pub all_in : (n : Name) → has t.all n ≡ names_where (λ r. true) earlier n
  pub objects_in : (n : Name) → has t.objects n ≡ names_where is_single earlier n
  pub members_in : (place : ℕ) (n : Name) → has_key t.members place 0 [] n ≡ names_where (is_member place) earlier n
  pub bodied_in : (place : ℕ) (n : Name) → has_key t.bodied place 0 [] n ≡ names_where (is_bodied place) earlier n
  pub parameters_in : (place : ℕ) (op n : Name) → has_key t.parameters place 0 op n ≡ names_where (is_parameter place op) earlier n
  pub bodied_parameters_in : (place : ℕ) (op n : Name) → has_key t.bodied_parameters place 0 op n
      ≡ names_where (is_bodied_parameter place op) earlier n
  pub asked_in : (place : ℕ) (n : Name) → has_key t.asked place 0 [] n ≡ names_where (is_asked (requests place) place) earlier n
  pub locals_in : (place body : ℕ) (n : Name) → has_key t.locals place body [] n ≡ names_where (is_local place body) earlier n

-- whether an object has a name, or an operation or datum of the object at a place
abbrev pub has_outer : Taken → ℕ → Name → Bool
has_outer t place n = has t.objects n || has_key t.members place 0 [] n

-- whether one of the sets of a role has a name
abbrev pub taken_in : Taken → roles.Role → Name → Bool
taken_in t role.Whole n = false
taken_in t role.Single n = has t.all n
taken_in t (role.Member place) n = has_outer t place n || has_key t.bodied place 0 [] n
taken_in t (role.Parameter place op bodied) n =
    (has t.objects n || (bodied && has_key t.members place 0 [] n)) || has_key t.bodied_parameters place 0 op.now n
taken_in t (role.Local place body op) n = (has_outer t place n || has_key t.parameters place 0 op.now n) || has_key t.locals place body [] n
taken_in t (role.Loop place body op) n = (has_outer t place n || has_key t.parameters place 0 op.now n) || has_key t.locals place body [] n
taken_in t (role.ThreadLoop place body) n = (has_outer t place n || has_key t.asked place 0 [] n) || has_key t.locals place body [] n
