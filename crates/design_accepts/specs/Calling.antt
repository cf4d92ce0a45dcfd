-- What calls in a program may lead to, as lists in the order of its units: passive operations, each with its owner, protected operations and
-- requests.
use Rattle.std.specs.Prelude.{◌≡◌, List, [], ◌∷◌, ◌++◌, map, flat_map}
use Rattle.seq_tree.specs.Names.{Name}
use Rattle.seq_tree.specs.Operations.{Operation, Offer}
use Rattle.seq_tree.specs.Trees.{offer_of, operation_of}
use Rattle.ada_tree.specs.Programs.{Form, Unit, Passive, Shared, Cyclic, Sporadic}
use Rattle.design_accepts.specs.declared.called.Called.{Called}

-- the passive operations of a unit
abbrev pub plain_in : Form → List Operation
plain_in (Passive ops) = ops
plain_in (Shared ceiling vars ops) = []
plain_in (Cyclic priority offset period vars block) = []
plain_in (Sporadic priority ceiling op separation jitter external vars block) = []

-- an operation as an offer of its object
abbrev pub offered_by : Name → Operation → Offer
offered_by name o = record { object = name; sig = o.sig }

-- the protected operations of a unit
abbrev pub shared_in : Name → Form → List Offer
shared_in name (Passive ops) = []
shared_in name (Shared ceiling vars ops) = map (offered_by name) ops
shared_in name (Cyclic priority offset period vars block) = []
shared_in name (Sporadic priority ceiling op separation jitter external vars block) = []

-- the request of a unit
abbrev pub requests_in : Name → Form → List Offer
requests_in name (Passive ops) = []
requests_in name (Shared ceiling vars ops) = []
requests_in name (Cyclic priority offset period vars block) = []
requests_in name (Sporadic priority ceiling op separation jitter external vars block) = record { object = name; sig = op } ∷ []

-- the same of units
abbrev pub plain_of : List Unit → List Operation
plain_of us = flat_map (λ u. plain_in u.form) us

abbrev pub owners_of : List Unit → List Name
owners_of us = flat_map (λ u. map (λ o. u.name) (plain_in u.form)) us

abbrev pub shared_of : List Unit → List Offer
shared_of us = flat_map (λ u. shared_in u.name u.form) us

abbrev pub requests_of : List Unit → List Offer
requests_of us = flat_map (λ u. requests_in u.name u.form) us

-- lists of what calls may lead to in these units
pub record Holds (c : Called) (us : List Unit) : Type 0 where
  pub passive : map operation_of c.passive.items ≡ plain_of us
  pub owners : c.owners.items ≡ owners_of us
  pub shared : map offer_of c.shared.items ≡ shared_of us
  pub requests : map offer_of c.requests.items ≡ requests_of us

-- lists to which those of a unit come
pub record Gains (before after : Called) (u : Unit) : Type 0 where
  pub passive : map operation_of after.passive.items ≡ map operation_of before.passive.items ++ plain_in u.form
  pub owners : after.owners.items ≡ before.owners.items ++ map (λ o. u.name) (plain_in u.form)
  pub shared : map offer_of after.shared.items ≡ map offer_of before.shared.items ++ shared_in u.name u.form
  pub requests : map offer_of after.requests.items ≡ map offer_of before.requests.items ++ requests_in u.name u.form

-- lists that with what calls lead to in the units that are left are those of all
pub record Reaches (c : Called) (left all : List Unit) : Type 0 where
  pub passive : map operation_of c.passive.items ++ plain_of left ≡ plain_of all
  pub owners : c.owners.items ++ owners_of left ≡ owners_of all
  pub shared : map offer_of c.shared.items ++ shared_of left ≡ shared_of all
  pub requests : map offer_of c.requests.items ++ requests_of left ≡ requests_of all
