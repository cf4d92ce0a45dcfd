-- Clashes of names: which later name is one that an earlier thing has, where the two may not share it.
-- A name is declared at most once in a declarative region (ISO/IEC 8652:2012, 8.3); this profile asks a little more.
use Rattle.std.specs.Prelude.{ℕ, Bool, true, false, ◌&&◌, ◌||◌, ◌==◌, List, [], ◌∷◌, ◌++◌, map, filter, flat_map, length, Option, Some, None}
use Rattle.std.specs.List.{list_any, enumerate_from, cons_option}
use Rattle.seq_tree.specs.Names.{Name, same_name, is_named}
use Rattle.seq_tree.specs.Statements.{Statement, Statements, Branches, If, For, End, Then, Nothing, Else, When}
use Rattle.ods_tree.specs.Designs.{Provided, Body, Object, Design}
use Rattle.ods_tree.specs.Walk.{Standing, objects, only_if}
use Rattle.ods_tree.specs.Flattening.{body_named}
use Rattle.ods_tree.specs.declared.design.Constraint.{Constraint}
use Rattle.ods_tree.specs.declared.design.Constraint.TheVariants.{Aser}
use Rattle.design_rules.specs.Broken.{Broken, V01}
use Rattle.design_rules.specs.Lookups.{is_sporadic}

-- what has a name: the design, an object, an operation or datum of the object at a place, a parameter of an operation with a body or
-- without one, a local of an operation's body, a loop of a body with the operations whose body it is
pub data Role : Type 0 where
  Whole : Role
  Single : Role
  Member : (place : ℕ) → Role
  Parameter : (place : ℕ) (op : Name) (bodied : Bool) → Role
  Local : (place body : ℕ) (op : Name) → Role
  Loop : (place body : ℕ) (ops : List Name) → Role

-- a name where it is declared, with the loops that are open there
pub record Mention : Type 0 where
  pub name : Name
  pub role : Role
  pub open' : List Name

-- whether a later thing may not have the name of an earlier one
abbrev pub excludes : Role → Role → Bool
excludes Whole Single = true
excludes Whole _ = false
excludes Single Whole = false
excludes Single _ = true
excludes _ Whole = false
excludes _ Single = true
excludes (Member p) (Member q) = p == q
excludes (Member p) (Parameter q op bodied) = p == q && bodied
excludes (Member p) (Local q body op) = p == q
excludes (Member p) (Loop q body ops) = p == q
excludes (Parameter p f bodied) (Member q) = p == q && bodied
excludes (Parameter p f bodied) (Parameter q op other) = p == q && bodied && same_name f op
excludes (Parameter p f bodied) (Local q body op) = p == q && same_name f op
excludes (Parameter p f bodied) (Loop q body ops) = p == q && is_named ops f
excludes (Local p b f) (Local q body op) = p == q && b == body
excludes (Local p b f) (Loop q body ops) = p == q && b == body
excludes _ _ = false

-- the loops of a block, each with those that are open at it
abbrev mutual
  pub statement_loops : (Name → List Name → Mention) → List Name → Statement → List Mention
  statement_loops mention open' (For name low high body) = mention name open' ∷ block_loops mention (name ∷ open') body
  statement_loops mention open' (If branches) = branch_loops mention open' branches
  statement_loops mention open' _ = []

  pub block_loops : (Name → List Name → Mention) → List Name → Statements → List Mention
  block_loops mention open' End = []
  block_loops mention open' (Then first rest) = statement_loops mention open' first ++ block_loops mention open' rest

  pub branch_loops : (Name → List Name → Mention) → List Name → Branches → List Mention
  branch_loops mention open' Nothing = []
  branch_loops mention open' (Else block) = block_loops mention open' block
  branch_loops mention open' (When condition block others) = block_loops mention open' block ++ branch_loops mention open' others

-- a name outside all loops
abbrev pub mention : Role → Name → Mention
mention role name = record { name = name; role = role; open' = [] }

-- whether a body is there
abbrev pub is_there : Option Body → Bool
is_there None = false
is_there (Some b) = true

-- whether a thread is there
abbrev pub has_block : Option Statements → Bool
has_block None = false
has_block (Some b) = true

-- whether a constraint is that of a request
abbrev pub is_aser : Option Constraint → Bool
is_aser (Some Aser) = true
is_aser _ = false

-- whether an operation is a request of a sporadic object
abbrev pub is_request : Object → Provided → Bool
is_request o p = is_sporadic o.kind && is_aser p.constraint

-- the requests of a sporadic object; its thread is the body of each
abbrev pub request_names : Object → List Name
request_names o = map (λ p. p.sig.name) (filter (is_request o) o.provides)

-- whether an operation has a body; that of a request is the thread
abbrev pub is_bodied : Object → Provided → Bool
is_bodied o p = is_there (body_named p.sig.name o.bodies) || (is_request o p && has_block o.thread)

-- an operation and its parameters
abbrev pub operation_mentions : ℕ → Object → Provided → List Mention
operation_mentions place o p =
    mention (Member place) p.sig.name ∷ map (λ q. mention (Parameter place p.sig.name (is_bodied o p)) q.name) p.sig.params

-- the locals and loops of a body
abbrev pub body_mentions : ℕ → ℕ × Body → List Mention
body_mentions place b =
    map (λ d. mention (Local place b.0 b.1.name) d.name) b.1.locals
    ++ block_loops (λ name open'. record { name = name; role = Loop place b.0 (b.1.name ∷ []); open' = open' }) [] b.1.block

-- the loops of a thread
abbrev pub thread_mentions : ℕ → Object → Option Statements → List Mention
thread_mentions place o None = []
thread_mentions place o (Some b) =
    block_loops (λ name open'. record { name = name; role = Loop place (length o.bodies) (request_names o); open' = open' }) [] b

-- the names of an object in order of writing
abbrev pub object_mentions : ℕ × Standing → List Mention
object_mentions s =
    mention Single s.1.own.name
    ∷ (flat_map (operation_mentions s.0 s.1.own) s.1.own.provides
    ++ (map (λ d. mention (Member s.0) d.name) s.1.own.vars
    ++ (flat_map (body_mentions s.0) (enumerate_from 0 s.1.own.bodies) ++ thread_mentions s.0 s.1.own s.1.own.thread)))

-- all names of a design in order
abbrev pub mentions : Design → List Mention
mentions x = mention Whole x.name ∷ flat_map object_mentions (enumerate_from 0 (objects x))

-- whether a name is one that an earlier thing has
abbrev pub is_taken : List Mention → Mention → Bool
is_taken earlier m = list_any (λ e. same_name e.name m.name && excludes e.role m.role) earlier || is_named m.open' m.name

-- the later names of all clashes, in order
abbrev pub clashes_after : List Mention → List Mention → List Broken
clashes_after earlier [] = []
clashes_after earlier (m ∷ more) = cons_option (only_if (is_taken earlier m) (V01 m.name)) (clashes_after (m ∷ earlier) more)

-- the clashes of a design
abbrev pub clashes : Design → List Broken
clashes x = clashes_after [] (mentions x)
