-- Names that clash, and calls of what isn't there.
-- A name is declared at most once in a declarative region (ISO/IEC 8652:2012, 8.3); this profile asks a little more.
use Rattle.std.specs.Prelude.{ℕ, suc, Bool, false, not, ◌||◌, ◌&&◌, List, [], ◌∷◌, ◌++◌, map, take, flat_map}
use Rattle.std.specs.List.{list_any}
use Rattle.seq_tree.specs.Names.{Name, same_name, is_named, are_distinct}
use Rattle.seq_tree.specs.Statements.{Statement, Statements, Branches, If, For, End, Then, Nothing, Else, When}
use Rattle.seq_tree.specs.Operations.{Offer}
use Rattle.seq_tree.specs.Calls.{block_calls}
use Rattle.seq_tree.specs.declared.tree.OpName.{OpName}
use Rattle.ada_tree.specs.Programs.{Form, Unit, Program}
use Rattle.ada_tree.specs.Bodies.{Body, bodies, data_of, heads, offers}

-- the names of all loops in a block
abbrev mutual
  pub statement_loops : Statement → List Name
  statement_loops (For name low high body) = name ∷ block_loops body
  statement_loops (If branches) = branch_loops branches
  statement_loops _ = []

  pub block_loops : Statements → List Name
  block_loops End = []
  block_loops (Then first rest) = statement_loops first ++ block_loops rest

  pub branch_loops : Branches → List Name
  branch_loops Nothing = []
  branch_loops (Else block) = block_loops block
  branch_loops (When condition block others) = block_loops block ++ branch_loops others

-- whether a loop has a name that is taken at its place
abbrev mutual
  pub statement_clashes : List Name → Statement → Bool
  statement_clashes taken (For name low high body) = is_named taken name || block_clashes (name ∷ taken) body
  statement_clashes taken (If branches) = branch_clashes taken branches
  statement_clashes taken _ = false

  pub block_clashes : List Name → Statements → Bool
  block_clashes taken End = false
  block_clashes taken (Then first rest) = statement_clashes taken first || block_clashes taken rest

  pub branch_clashes : List Name → Branches → Bool
  branch_clashes taken Nothing = false
  branch_clashes taken (Else block) = block_clashes taken block
  branch_clashes taken (When condition block others) = block_clashes taken block || branch_clashes taken others

-- the names of a unit's operations and data
abbrev pub own_names : Form → List Name
own_names form = map (λ h. h.name) (heads form) ++ map (λ d. d.name) (data_of form)

-- the names of a body's parameters and locals
abbrev pub body_names : Body → List Name
body_names b = map (λ q. q.name) b.params ++ map (λ d. d.name) b.locals

-- all names inside a unit
abbrev pub inner_names : Form → List Name
inner_names form = own_names form ++ flat_map (λ b. body_names b ++ block_loops b.block) (bodies form)

-- whether names clash inside a body
abbrev pub body_clashes : Form → Body → Bool
body_clashes form b = not (are_distinct (own_names form ++ body_names b)) || block_clashes (own_names form ++ body_names b) b.block

-- whether a call names an operation that is offered
abbrev pub is_there : List Offer → OpName → Bool
is_there offers' name = list_any (λ o. same_name o.object name.object && same_name o.sig.name name.op) offers'

-- the calls of a unit
abbrev pub calls_of : Form → List OpName
calls_of form = flat_map (λ b. block_calls b.block) (bodies form)

-- whether the unit at this place breaks the rule; of two things of one name the later one does, in the order of units
abbrev pub breaks_naming : Program → ℕ → Unit → Bool
breaks_naming p place u =
    is_named (map (λ v. v.name) (take place p.units) ++ flat_map (λ v. inner_names v.form) (take place p.units)) u.name || same_name p.name u.name
    || list_any (is_named (map (λ v. v.name) (take (suc place) p.units))) (inner_names u.form)
    || not (are_distinct (own_names u.form)) || list_any (body_clashes u.form) (bodies u.form)
    || list_any (λ c. not (is_there (offers p) c)) (calls_of u.form)
