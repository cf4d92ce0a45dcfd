-- Names that can't stand in an Ada text: reserved words, and words that the text uses itself.
-- The reserved words are those of ISO/IEC 8652:2012, 2.9. Every name that is written counts.
use Rattle.std.specs.Prelude.{not, List, [], ◌∷◌, ◌++◌, map, filter, flat_map, Option, Some, None}
use Rattle.seq_tree.specs.Names.{Name}
use Rattle.seq_tree.specs.Expressions.{Expression, Number, Variable, Paren, Not, Binary}
use Rattle.seq_tree.specs.Statements.{Statement, Statements, Branches, Null, Assign, If, For, ExitWhen, Call, Work, Put, End, Then, Nothing}
use Rattle.seq_tree.specs.Statements.{Else, When}
use Rattle.seq_tree.specs.declared.tree.OpName.{OpName}
use Rattle.ods_tree.specs.Designs.{Provided, Body, Object, Design}
use Rattle.ods_tree.specs.Walk.{objects}
use Rattle.ods_tree.specs.declared.design.Link.{Link}
use Rattle.ada_tree.specs.Words.{is_ada_name}
use Rattle.design_rules.specs.Broken.{Broken, V02}

-- the names in an expression
abbrev pub expression_names : Expression → List Name
expression_names (Number n) = []
expression_names (Variable name) = name ∷ []
expression_names (Paren e) = expression_names e
expression_names (Not e) = expression_names e
expression_names (Binary op left right) = expression_names left ++ expression_names right

-- the names in a statement, in statements and in branches
abbrev mutual
  pub statement_names : Statement → List Name
  statement_names Null = []
  statement_names (Assign target value) = target ∷ expression_names value
  statement_names (If branches) = branch_names branches
  statement_names (For name low high body) = name ∷ block_names body
  statement_names (ExitWhen condition) = expression_names condition
  statement_names (Call object op actuals) = object ∷ op ∷ flat_map expression_names actuals
  statement_names (Work ticks) = []
  statement_names (Put value) = expression_names value

  pub block_names : Statements → List Name
  block_names End = []
  block_names (Then first rest) = statement_names first ++ block_names rest

  pub branch_names : Branches → List Name
  branch_names Nothing = []
  branch_names (Else block) = block_names block
  branch_names (When condition block others) = expression_names condition ++ (block_names block ++ branch_names others)

-- the two names of an operation
abbrev pub op_names : OpName → List Name
op_names o = o.object ∷ o.op ∷ []

-- the names of a provided operation
abbrev pub provided_names : Provided → List Name
provided_names p = p.sig.name ∷ map (λ q. q.name) p.sig.params

-- the names of a body
abbrev pub body_names : Body → List Name
body_names b = b.name ∷ (map (λ d. d.name) b.locals ++ block_names b.block)

-- the names of a thread, where there is one
abbrev pub thread_names : Option Statements → List Name
thread_names None = []
thread_names (Some b) = block_names b

-- the names of a link
abbrev pub link_names : Link → List Name
link_names l = l.op ∷ op_names l.to

-- the names of an object, in order of writing
abbrev pub object_names : Object → List Name
object_names o =
    o.name ∷ (flat_map provided_names o.provides ++ (flat_map op_names o.needs ++ (map (λ d. d.name) o.vars
    ++ (flat_map body_names o.bodies ++ (thread_names o.thread ++ flat_map link_names o.links)))))

-- the names of a design that can't stand in an Ada text
abbrev pub kept_names : Design → List Broken
kept_names x = map V02 (filter (λ n. not (is_ada_name n)) (x.name ∷ flat_map (λ s. object_names s.own) (objects x)))
