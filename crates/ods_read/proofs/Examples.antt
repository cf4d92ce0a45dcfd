-- Examples: what each reader of a design takes, and where it stops.
use Rattle.std.specs.Prelude.{◌≡◌, true, false, List, [], ◌∷◌, ◌++◌, length, Some, None, Ok, Err, codes, refl}
use Rattle.std.proofs.Common.{sym, ◌∙◌, ap, arith, length-append, inl, inr}
use Prim.Native.String.{String}
use Rattle.grammar.specs.Reading.{Syntax, TooDeep, whole_at}
use Rattle.seq_tree.specs.Proper.{within_limits, without_limits}
use Rattle.seq_tree.specs.declared.token.Token.{Token}
use Rattle.seq_tree.specs.declared.token.Token.TheVariants.{Word, Number, Sign}
use Rattle.seq_tree.specs.declared.token.Mark.TheVariants.{Semicolon, Dot, Equal}
use Rattle.ods_tree.specs.Designs.{Design}
use Rattle.ods_tree.specs.Words.{is_design_name}
use Rattle.ods_tree.specs.Proper.{IsProperDesign}
use Rattle.ods_tree.specs.Spelling.{design_tokens}
use Rattle.ods_tree.specs.declared.design.Kind.TheVariants.{Active}
use Rattle.ods_tree.specs.declared.design.Constraint.TheVariants.{Paer}
use Rattle.ods_tree.specs.declared.design.AttrKey.TheVariants.{Period}
use Rattle.ods_tree.specs.declared.design.TickUnit.TheVariants.{Ms}
use Rattle.ods_tree.proofs.Shared.Short.{group, design}
use Rattle.token_read.specs.Readers.{fixed_at, number_at, name_at}
use Rattle.seq_read.specs.Statements.{next_is_name}
use Rattle.seq_read.specs.Parts.{named_at}
use Rattle.ods_read.specs.Readers.{kind_named, constraint_named, key_named, unit_named, cost_at, cost_list_at, costs_at, unit_at, attribute_at}
use Rattle.ods_read.specs.Readers.{attribute_list_at, attributes_at, constraint_at, op_name_at, needed_at, needed_list_at, requires_at}
use Rattle.ods_read.specs.Readers.{provides_at, provided_list_at, data_at, datum_list_at, bodies_at, thread_at, link_at, link_list_at}
use Rattle.ods_read.specs.Readers.{implements_at}
use Rattle.ods_read.specs.ObjectReaders.{over_at, children_at, object_at, tree_with}
use Rattle.ods_read.specs.DesignReaders.{version_at, two_at, tick_at, priorities_at, design_with, design_at}
use Rattle.ods_read.specs.Answers.{SomeDesign, AnyDesign, Keeps}
use Rattle.ods_read.proofs.LineTokens.{design_joined}

abbrev w : String → Token
w s = Word (codes s)

abbrev semicolon : Token
semicolon = Sign Semicolon

-- WORDS
kind_is : kind_named (codes "active") ≡ Some Active
unfolding kind_named
kind_is = refl

kind_not : kind_named (codes "aser") ≡ None
unfolding kind_named
kind_not = refl

constraint_is : constraint_named (codes "paer") ≡ Some Paer
unfolding constraint_named
constraint_is = refl

constraint_not : constraint_named (codes "period") ≡ None
unfolding constraint_named
constraint_not = refl

key_is : key_named (codes "period") ≡ Some Period
unfolding key_named
key_is = refl

key_not : key_named (codes "ms") ≡ None
unfolding key_named
key_not = refl

unit_is : unit_named (codes "ms") ≡ Some Ms
unfolding unit_named
unit_is = refl

unit_not : unit_named (codes "active") ≡ None
unfolding unit_named
unit_not = refl

-- COSTS
cost_read : cost_at (codes "test") (w "test" ∷ Sign Equal ∷ Number 3 ∷ semicolon ∷ w "turn" ∷ []) ≡ Ok (3, w "turn" ∷ [])
unfolding cost_at fixed_at number_at
cost_read = refl

cost_other : cost_at (codes "test") (w "turn" ∷ Sign Equal ∷ Number 3 ∷ semicolon ∷ []) ≡ Err (Syntax 4)
unfolding cost_at fixed_at number_at
cost_other = refl

-- ATTRIBUTES: a unit stands in version 2 alone
attribute_text : List Token
attribute_text = w "period" ∷ Sign Equal ∷ Number 5 ∷ w "ms" ∷ semicolon ∷ []

unit_read : attribute_at true attribute_text ≡ Ok (record { key = Period; value = 5; unit = Some Ms }, [])
unfolding attribute_text attribute_at named_at key_named unit_at unit_named fixed_at number_at
unit_read = refl

unit_refused : attribute_at false attribute_text ≡ Err (Syntax 2)
unfolding attribute_text attribute_at named_at key_named unit_at unit_named fixed_at number_at
unit_refused = refl

-- PROVIDED AND REQUIRED OPERATIONS
constraint_read : constraint_at (w "paer" ∷ semicolon ∷ []) ≡ Ok (Some Paer, semicolon ∷ [])
unfolding constraint_at named_at constraint_named
constraint_read = refl

constraint_out : constraint_at (semicolon ∷ []) ≡ Ok (None, semicolon ∷ [])
unfolding constraint_at named_at constraint_named
constraint_out = refl

-- a section ends at the first token that begins no item, and is left out where its word is not next
requires_read : requires_at (w "requires" ∷ w "a" ∷ Sign Dot ∷ w "attributes" ∷ semicolon ∷ w "data" ∷ [])
    ≡ Ok (record { object = codes "a"; op = codes "attributes" } ∷ [], w "data" ∷ [])
unfolding requires_at needed_list_at needed_at op_name_at fixed_at name_at next_is_name is_design_name
requires_read = refl

requires_out : requires_at (w "data" ∷ []) ≡ Ok ([], w "data" ∷ [])
unfolding requires_at needed_list_at needed_at op_name_at fixed_at name_at next_is_name is_design_name
requires_out = refl

-- a list is never empty
requires_empty : requires_at (w "requires" ∷ w "data" ∷ []) ≡ Err (Syntax 1)
unfolding requires_at needed_list_at needed_at op_name_at fixed_at name_at next_is_name is_design_name
requires_empty = refl

-- a word of the grammar that is a name
link_read : link_at (w "aser" ∷ w "by" ∷ w "object" ∷ Sign Dot ∷ w "costs" ∷ semicolon ∷ [])
    ≡ Ok (record { op = codes "aser"; to = record { object = codes "object"; op = codes "costs" } }, [])
unfolding link_at op_name_at fixed_at name_at is_design_name
link_read = refl

link_other : link_at (w "end" ∷ w "by" ∷ w "a" ∷ Sign Dot ∷ w "b" ∷ semicolon ∷ []) ≡ Err (Syntax 6)
unfolding link_at op_name_at fixed_at name_at is_design_name
link_other = refl

-- OBJECTS: where none may nest any more, the first is told, and anything else is a fault of syntax
over_told : over_at (w "object" ∷ w "a" ∷ []) ≡ Err (TooDeep 2)
unfolding over_at
over_told = refl

over_syntax : over_at (w "end" ∷ w "a" ∷ []) ≡ Err (Syntax 2)
unfolding over_at
over_syntax = refl

-- the name at the end of an object is that at its head
object_read : tree_with (children_at over_at) false 32 0 (w "object" ∷ w "a" ∷ w "is" ∷ w "active" ∷ w "end" ∷ w "a" ∷ semicolon ∷ [])
    ≡ Ok (group (codes "a") [], [])
unfolding tree_with object_at children_at named_at kind_named attributes_at attribute_list_at provides_at provided_list_at requires_at needed_list_at
    data_at datum_list_at bodies_at thread_at implements_at link_list_at fixed_at name_at is_design_name
object_read = refl

object_other : tree_with (children_at over_at) false 32 0 (w "object" ∷ w "a" ∷ w "is" ∷ w "active" ∷ w "end" ∷ w "b" ∷ semicolon ∷ [])
    ≡ Err (Syntax 2)
unfolding tree_with object_at children_at named_at kind_named attributes_at attribute_list_at provides_at provided_list_at requires_at needed_list_at
    data_at datum_list_at bodies_at thread_at implements_at link_list_at fixed_at name_at is_design_name
object_other = refl

-- an object inside the last one that may nest
object_deep : tree_with (children_at over_at) false 32 0 (w "object" ∷ w "a" ∷ w "is" ∷ w "active" ∷ w "objects" ∷ w "object" ∷ w "b" ∷ [])
    ≡ Err (TooDeep 2)
unfolding tree_with object_at children_at over_at named_at kind_named attributes_at attribute_list_at provides_at provided_list_at requires_at
    needed_list_at data_at datum_list_at bodies_at thread_at fixed_at name_at is_design_name
object_deep = refl

-- DESIGNS
version_read : version_at (w "version" ∷ Number 2 ∷ w "is" ∷ w "tick" ∷ Sign Equal ∷ Number 1 ∷ w "ms" ∷ semicolon ∷ w "costs" ∷ [])
    ≡ Ok (Some (record { tick = 1; unit = Ms; priorities = None }), w "costs" ∷ [])
unfolding version_at two_at tick_at priorities_at named_at unit_named fixed_at number_at
version_read = refl

version_other : version_at (w "version" ∷ Number 3 ∷ w "is" ∷ []) ≡ Err (Syntax 2)
unfolding version_at two_at fixed_at
version_other = refl

-- an active root without anything inside it
abbrev small : Design
small = design (group (codes "r") [])

small_proper : IsProperDesign (within_limits is_design_name) small
unfolding is_design_name
small_proper = (
  refl,
  (
    record {
      nests = refl;
      name = refl;
      attrs = tt;
      provides = tt;
      needs = tt;
      vars = tt;
      bodies = tt;
      thread = tt;
      links = tt;
    },
    tt,
  ),
)

small_free : IsProperDesign (without_limits is_design_name) small
unfolding is_design_name
small_free = (
  refl,
  (
    record {
      nests = refl;
      name = refl;
      attrs = tt;
      provides = tt;
      needs = tt;
      vars = tt;
      bodies = tt;
      thread = tt;
      links = tt;
    },
    tt,
  ),
)

small_read : whole_at design_at (design_tokens small) ≡ Ok small
unfolding design_with version_at costs_at cost_list_at cost_at tree_with object_at children_at named_at kind_named attributes_at attribute_list_at
    provides_at provided_list_at requires_at needed_list_at data_at datum_list_at bodies_at thread_at implements_at link_list_at fixed_at number_at
    name_at is_design_name
small_read = refl

-- something behind the end
small_other : whole_at design_at (design_tokens small ++ semicolon ∷ []) ≡ Err (Syntax 1)
unfolding design_with version_at costs_at cost_list_at cost_at tree_with object_at children_at named_at kind_named attributes_at attribute_list_at
    provides_at provided_list_at requires_at needed_list_at data_at datum_list_at bodies_at thread_at implements_at link_list_at fixed_at number_at
    name_at is_design_name
small_other = refl

-- TOKENS THAT KEEP THE LIMITS
small_some : SomeDesign (design_tokens small)
small_some = (small, small_proper, refl)

small_any : AnyDesign (design_tokens small)
small_any = (small, small_free, refl)

small_keeps : Keeps (design_tokens small)
small_keeps = inl small_some

-- no design is without tokens
spelled_some : (x : Design) → [] ≡ design_tokens x → ⊥
spelled_some x e = let no = e ∙ sym (design_joined x) in cc

none_some : SomeDesign [] → ⊥
none_some d = spelled_some d.0 d.2

none_any : AnyDesign [] → ⊥
none_any d = spelled_some d.0 d.2

none_keeps : Keeps [] → ⊥
none_keeps k = elim k [ inl d ↦ none_some d | inr h ↦ omega (arith, ap length h.1, length-append h.0 (w "objects" ∷ [])) ]
