-- Examples: which designs can be written and read again. Each object here but the first breaks one condition alone.
use Rattle.std.specs.Prelude.{◌≡◌, ◌≤◌, ℕ, true, false, List, [], ◌∷◌, map, length, Some, None, codes, refl}
use Rattle.std.specs.List.{list_any}
use Rattle.std.proofs.Common.{inl, inr, lit≤, arith}
use Rattle.seq_tree.specs.Names.{Name}
use Rattle.seq_tree.specs.Expressions.{Expression, Variable, Paren, Not, Binary}
use Rattle.seq_tree.specs.Statements.{Statements, Null, Assign, If, For, ExitWhen, Call, Put, End, Nothing, Else, When}
use Rattle.seq_tree.specs.Proper.{Limits, within_limits, without_limits, is_block_name, IsProperExpression, IsProperStatement, IsProperBlock}
use Rattle.seq_tree.specs.Levels.{chain, IsLeft}
use Rattle.seq_tree.specs.declared.tree.BinOp.TheVariants as bin
use Rattle.seq_tree.specs.declared.tree.OpName.{OpName}
use Rattle.seq_tree.specs.declared.tree.Mode.TheVariants.{In}
use Rattle.ods_tree.specs.Designs.{Provided, Body, Object, Design, Node, Empty}
use Rattle.ods_tree.specs.Proper.{IsProperObject, IsProperTree, IsProperDesign}
use Rattle.ods_tree.specs.Reading.{Reads}
use Rattle.ods_tree.specs.Words.{is_design_name}
use Rattle.ods_tree.specs.declared.design.Kind.TheVariants as kind
use Rattle.ods_tree.specs.declared.design.AttrKey.TheVariants.{Period}
use Rattle.ods_tree.specs.declared.design.TickUnit.TheVariants.{Ms}
use Rattle.ods_tree.proofs.Shared.Short.{row_costs, block, attr}

abbrev limits : Limits
limits = within_limits is_design_name

-- a word that is kept is no name
taken : is_design_name (codes "end") ≡ true → ⊥
unfolding is_design_name
taken h = cc

-- the words that are kept, and some that are not
kept_words : list_any is_design_name (codes "" ∷ codes "end" ∷ codes "provides" ∷ codes "requires" ∷ codes "data" ∷ codes "operation"
    ∷ codes "thread" ∷ codes "objects" ∷ codes "implements" ∷ codes "begin" ∷ codes "is" ∷ codes "null" ∷ codes "if" ∷ codes "then" ∷ codes "elsif"
    ∷ codes "else"
    ∷ codes "for" ∷ codes "in" ∷ codes "out" ∷ codes "loop" ∷ codes "exit" ∷ codes "when" ∷ codes "range" ∷ codes "mod" ∷ codes "and" ∷ codes "or"
    ∷ codes "xor" ∷ codes "not" ∷ codes "word" ∷ codes "work" ∷ codes "put" ∷ []) ≡ false
unfolding is_design_name
kept_words = refl

free_words : map is_design_name (codes "x" ∷ codes "ends" ∷ codes "object" ∷ codes "by" ∷ codes "design" ∷ []) ≡ true ∷ true ∷ true ∷ true ∷ true ∷ []
unfolding is_design_name
free_words = refl

-- an object with something of each sort
abbrev op : Name → Name → OpName
op object op' = record { object = object; op = op' }

abbrev provided : Name → Name → Provided
provided n param = record { sig = record { name = n; params = record { name = param; mode = In } ∷ [] }; constraint = None }

abbrev body : Name → Name → Statements → Body
body n local b = record { name = n; locals = record { name = local; value = 0 } ∷ []; block = b }

abbrev one : Statements
one = block (Null ∷ [])

abbrev fine : Object
fine = record {
  name = codes "a";
  kind = kind.Cyclic;
  attrs = attr Period 10 ∷ [];
  provides = provided (codes "f") (codes "v") ∷ [];
  needs = op (codes "b") (codes "g") ∷ [];
  vars = record { name = codes "x"; value = 0 } ∷ [];
  bodies = body (codes "f") (codes "y") one ∷ [];
  thread = Some one;
  links = record { op = codes "f"; to = op (codes "c") (codes "h") } ∷ [];
}

is_fine : IsProperObject limits None 1 fine
unfolding is_design_name
is_fine = record {
  nests = refl;
  name = refl;
  attrs = (refl, tt);
  provides = ((refl, (refl, tt)), tt);
  needs = ((refl, refl), tt);
  vars = (refl, tt);
  bodies = ((refl, (refl, tt), (tt, tt)), tt);
  thread = (tt, tt);
  links = ((refl, (refl, refl)), tt);
}

named_so : IsProperObject limits None 1 (record fine { name = codes "end" }) → ⊥
named_so h = taken h.name

with_unit : IsProperObject limits None 1 (record fine { attrs = record { key = Period; value = 10; unit = Some Ms } ∷ [] }) → ⊥
with_unit h = (let none : ◌≡◌ (Some Ms) None = h.attrs.0 in cc)

provides_so : IsProperObject limits None 1 (record fine { provides = provided (codes "end") (codes "v") ∷ [] }) → ⊥
provides_so h = taken h.provides.0.0

takes_so : IsProperObject limits None 1 (record fine { provides = provided (codes "f") (codes "end") ∷ [] }) → ⊥
takes_so h = taken h.provides.0.1.0

needs_of_such : IsProperObject limits None 1 (record fine { needs = op (codes "end") (codes "g") ∷ [] }) → ⊥
needs_of_such h = taken h.needs.0.0

needs_such : IsProperObject limits None 1 (record fine { needs = op (codes "b") (codes "end") ∷ [] }) → ⊥
needs_such h = taken h.needs.0.1

keeps_so : IsProperObject limits None 1 (record fine { vars = record { name = codes "end"; value = 0 } ∷ [] }) → ⊥
keeps_so h = taken h.vars.0

body_named_so : IsProperObject limits None 1 (record fine { bodies = body (codes "end") (codes "y") one ∷ [] }) → ⊥
body_named_so h = taken h.bodies.0.0

local_named_so : IsProperObject limits None 1 (record fine { bodies = body (codes "f") (codes "end") one ∷ [] }) → ⊥
local_named_so h = taken h.bodies.0.1.0

body_empty : IsProperObject limits None 1 (record fine { bodies = body (codes "f") (codes "y") End ∷ [] }) → ⊥
body_empty h = h.bodies.0.2

thread_empty : IsProperObject limits None 1 (record fine { thread = Some End }) → ⊥
thread_empty h = h.thread

linked_so : IsProperObject limits None 1 (record fine { links = record { op = codes "end"; to = op (codes "c") (codes "h") } ∷ [] }) → ⊥
linked_so h = taken h.links.0.0

linked_to_such : IsProperObject limits None 1 (record fine { links = record { op = codes "f"; to = op (codes "c") (codes "end") } ∷ [] }) → ⊥
linked_to_such h = taken h.links.0.1.1

-- the 65th nesting, which an object counts as one of, and so does what stands inside it
too_deep : IsProperObject limits None 65 fine → ⊥
too_deep h = (let within : false ≡ true = h.nests in cc)

deepest : IsProperObject limits None 64 (record fine { bodies = []; thread = None })
unfolding is_design_name
deepest =
    record {
      nests = refl;
      name = refl;
      attrs = (refl, tt);
      provides = ((refl, (refl, tt)), tt);
      needs = ((refl, refl), tt);
      vars = (refl, tt);
      bodies = tt;
      thread = tt;
      links = ((refl, (refl, refl)), tt);
    }

one_deeper : IsProperTree limits None 64 (Node fine Empty) → ⊥
one_deeper h = too_deep h.0

abbrev an_if : Statements
an_if = block (If (When (Variable (codes "x")) one Nothing) ∷ [])

inside_deepest : IsProperObject limits None 64 (record fine { bodies = body (codes "f") (codes "y") an_if ∷ [] }) → ⊥
inside_deepest h = (let within : false ≡ true = h.bodies.0.2.0.0 in cc)

thread_inside_deepest : IsProperObject limits None 64 (record fine { thread = Some an_if }) → ⊥
thread_inside_deepest h = (let within : false ≡ true = h.thread.0.0 in cc)

-- a design of a name, and a text within the limit of bytes
abbrev named : Name → Design
named n = record { name = n; version = None; costs = row_costs; root = Node fine Empty }

design_fine : IsProperDesign limits (named (codes "d"))
unfolding is_design_name
design_fine = (refl, (is_fine, tt))

design_named_so : IsProperDesign limits (named (codes "end")) → ⊥
design_named_so h = taken h.0

within_bytes : (text : List ℕ) (x : Design) → Reads text x → length text ≤ 1048576
within_bytes text x r = r.within

-- statements: each construct nests what is inside it, and has what it needs
abbrev l : Limits
l = within_limits is_block_name

abbrev x : Expression
x = Variable (codes "x")

abbrev bad : Expression
bad = Variable (codes "null")

nested_64 : IsProperStatement l 63 (If (When x one (When x one (Else one))))
nested_64 = (refl, (refl, (tt, tt), (refl, (tt, tt), (tt, tt))))

nested_65 : IsProperStatement l 64 (If (When x one Nothing)) → ⊥
nested_65 h = (let within : false ≡ true = h.0 in cc)

loop_64 : IsProperStatement l 63 (For (codes "i") 1 2 one)
loop_64 = (refl, refl, (tt, tt))

loop_65 : IsProperStatement l 64 (For (codes "i") 1 2 one) → ⊥
loop_65 h = (let within : false ≡ true = h.0 in cc)

loop_inside : IsProperStatement l 63 (For (codes "i") 1 2 (block (For (codes "i") 1 2 one ∷ []))) → ⊥
loop_inside h = loop_65 h.2.0

branch_inside : IsProperStatement l 63 (If (When x (block (For (codes "i") 1 2 one ∷ [])) Nothing)) → ⊥
branch_inside h = loop_65 h.1.1.0

elsif_inside : IsProperStatement l 63 (If (When x one (When x (block (For (codes "i") 1 2 one ∷ [])) Nothing))) → ⊥
elsif_inside h = loop_65 h.1.2.1.0

else_inside : IsProperStatement l 63 (If (When x one (Else (block (For (codes "i") 1 2 one ∷ []))))) → ⊥
else_inside h = loop_65 h.1.2.0

paren_64 : IsProperExpression l 63 (Paren x)
paren_64 = (refl, refl)

paren_65 : IsProperExpression l 64 (Paren x) → ⊥
paren_65 h = (let within : false ≡ true = h.0 in cc)

paren_inside : IsProperExpression l 63 (Paren (Paren x)) → ⊥
paren_inside h = paren_65 h.1

chain_limits : map l.chains (32 ∷ 33 ∷ []) ≡ true ∷ false ∷ []
chain_limits = refl

no_limits : map (without_limits is_block_name).chains (33 ∷ []) ≡ true ∷ []
no_limits = refl

no_depth : map (without_limits is_block_name).nests (65 ∷ []) ≡ true ∷ []
no_depth = refl

-- `not` takes a primary alone
not_primary : IsProperExpression l 0 (Not x)
not_primary = (refl, refl)

not_twice : IsProperExpression l 0 (Not (Not x)) → ⊥
not_twice h = (let tight : ◌≡◌ {A = ℕ} 4 5 = h.0 in cc)

not_name : IsProperExpression l 0 (Not bad) → ⊥
not_name h = (let name : false ≡ true = h.1 in cc)

-- a product binds tighter than a difference, a sum doesn't; `and` and `or` make no chain, nor do two comparisons
product_to_the_right : IsProperExpression l 0 (Binary bin.Sub x (Binary bin.Mul x x))
product_to_the_right = (inr (lit≤ tt), lit≤ tt, refl, refl, (inr (lit≤ tt), lit≤ tt, refl, refl, refl))

sum_to_the_right : IsProperExpression l 0 (Binary bin.Sub x (Binary bin.Add x x)) → ⊥
sum_to_the_right h =
    let tight : 3 ≤ 2 = h.1 in
    omega (arith, tight)

chains : map (λ o. chain (Binary o (Binary bin.And x x) x)) (bin.And ∷ bin.Or ∷ bin.Eq ∷ bin.Add ∷ []) ≡ 2 ∷ 1 ∷ 1 ∷ 1 ∷ []
chains = refl

chain_of_levels : map (λ o. chain (Binary o (Binary bin.Mul x x) x)) (bin.Mul ∷ bin.Div ∷ bin.Mod ∷ bin.Add ∷ []) ≡ 2 ∷ 2 ∷ 2 ∷ 1 ∷ []
chain_of_levels = refl

no_chain : IsProperExpression l 0 (Binary bin.Or (Binary bin.And x x) x) → ⊥
no_chain h = none h.0
  where
    none : IsLeft bin.Or (Binary bin.And x x) → ⊥
    none (inl same) = cc
    none (inr tight) = (let e' : 1 ≤ 0 = tight in omega (arith, e'))

comparisons : IsProperExpression l 0 (Binary bin.Lt (Binary bin.Lt x x) x) → ⊥
comparisons h = none h.0
  where
    none : IsLeft bin.Lt (Binary bin.Lt x x) → ⊥
    none (inl same) = cc
    none (inr tight) = (let e' : 2 ≤ 1 = tight in omega (arith, e'))

-- names where they stand
abbrev wrong : Name
wrong = codes "null"

target_named_so : IsProperStatement l 0 (Assign wrong x) → ⊥
target_named_so h = (let name : false ≡ true = h.0 in cc)

loop_named_so : IsProperStatement l 0 (For wrong 1 2 one) → ⊥
loop_named_so h = (let name : false ≡ true = h.1 in cc)

object_named_so : IsProperStatement l 0 (Call wrong (codes "f") []) → ⊥
object_named_so h = (let name : false ≡ true = h.0 in cc)

op_named_so : IsProperStatement l 0 (Call (codes "p") wrong []) → ⊥
op_named_so h = (let name : false ≡ true = h.1 in cc)

second_actual : IsProperStatement l 0 (Call (codes "p") (codes "f") (x ∷ bad ∷ [])) → ⊥
second_actual h = (let name : false ≡ true = h.2.1.0 in cc)

condition_named_so : IsProperStatement l 0 (ExitWhen bad) → ⊥
condition_named_so h = (let name : false ≡ true = h in cc)

printed_so : IsProperStatement l 0 (Put bad) → ⊥
printed_so h = (let name : false ≡ true = h in cc)

second_condition : IsProperStatement l 0 (If (When x one (When bad one Nothing))) → ⊥
second_condition h = (let name : false ≡ true = h.1.2.0 in cc)

-- a block has a statement, also in each branch
empty_block : IsProperBlock l 0 End → ⊥
empty_block h = h

empty_branch : IsProperStatement l 0 (If (When x End Nothing)) → ⊥
empty_branch h = h.1.1

empty_else : IsProperStatement l 0 (If (When x one (Else End))) → ⊥
empty_else h = h.1.2

no_condition : IsProperStatement l 0 (If (Else one)) → ⊥
no_condition h = h.1

empty_loop : IsProperStatement l 0 (For (codes "i") 1 2 End) → ⊥
empty_loop h = h.2

block_words : list_any is_block_name (codes "" ∷ codes "null" ∷ codes "if" ∷ codes "then" ∷ codes "elsif" ∷ codes "else" ∷ codes "end"
    ∷ codes "for" ∷ codes "in" ∷ codes "word" ∷ codes "range" ∷ codes "loop" ∷ codes "exit" ∷ codes "when" ∷ codes "work" ∷ codes "put"
    ∷ codes "and" ∷ codes "or" ∷ codes "xor" ∷ codes "mod" ∷ codes "not" ∷ []) ≡ false
block_words = refl
