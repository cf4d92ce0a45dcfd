-- Each item of a list in a design takes tokens, so that a list has an end.
use Rattle.std.proofs.Common.{ℕ, zero, suc, Bool, List, [], ◌∷◌, Option, Some, None, codes}
use Rattle.grammar.specs.Reading.{Read}
use Rattle.seq_tree.specs.Names.{Name}
use Rattle.seq_tree.specs.declared.token.Token.{Token}
use Rattle.seq_tree.specs.declared.token.Token.TheVariants.{Word, Sign}
use Rattle.seq_tree.specs.declared.token.Mark.TheVariants.{LeftParen, RightParen, Semicolon, Colon, Dot, Equal}
use Rattle.ods_tree.specs.Designs.{Node, Empty}
use Rattle.ods_tree.specs.Trees.{trees_of}
use Rattle.ods_tree.specs.Words.{is_design_name}
use Rattle.token_read.specs.Readers.{phrase_at, next_is}
use Rattle.seq_read.specs.Statements.{BlockReader, block_at, statement_at}
use Rattle.seq_read.proofs.Shared.Takes.{Takes, takes-any, takes-token, takes-pure, takes-deep, takes-then, takes-choose, takes-many}
use Rattle.seq_read.proofs.Shared.TokenTakes.{takes-fixed, any-fixed, any-word, takes-number, takes-name, closes, takes-block, takes-statement}
use Rattle.seq_read.specs.Parts.{sees_by, named_at, mode_named, end_tokens}
use Rattle.seq_read.proofs.Shared.DatumLaws as variables
use Rattle.ods_read.specs.Readers.{next_by, kind_named, constraint_named, key_named, unit_named, design_name_at, next_is_design_name}
use Rattle.ods_read.specs.Readers.{some_at, section_at, op_name_at, next_is_unit, unit_at, attribute_at, attribute_list_at, attributes_at}
use Rattle.ods_read.specs.Readers.{param_at, more_param_at, param_list_at, enclosed_at, params_at, constraint_at, provided_at, provided_list_at}
use Rattle.ods_read.specs.Readers.{provides_at, needed_at, needed_list_at, requires_at, datum_at, locals_at, datum_list_at, data_at, body_at}
use Rattle.ods_read.specs.Readers.{bodies_at, activation_at, thread_at, link_at, link_list_at, implements_at}
use Rattle.ods_read.specs.ObjectReaders.{TreeReader, TreesReader, next_is_object, tree_list_at, none_at, over_at, children_at, object_at}
use Rattle.ods_read.specs.ObjectReaders.{tree_with, tree_at}

-- WORDS, ENDS AND LISTS
takes-named : {A : Type 0} (named : Name → Option A) → Takes 1 (named_at named)
unfolding named_at
takes-named named = takes-token (sees_by named)

any-name : Takes 0 design_name_at
any-name = takes-any 1 (takes-name is_design_name)

takes-phrase : (us : List Token) → Takes 0 (phrase_at us)
takes-phrase [] = takes-pure tt
takes-phrase (u ∷ us) = takes-then (any-fixed u) (λ _. takes-phrase us)

takes-some : {A : Type 0} (test : Option Token → Bool) (r : List Token → Read Token A) → Takes 1 r → Takes 0 (some_at test r)
takes-some test r one = takes-then (takes-any 1 one) (λ a. takes-then (takes-many test r (takes-any 1 one)) (λ more. takes-pure (a ∷ more)))

takes-section : {A : Type 0} (head : List ℕ) (list : List Token → Read Token (List A)) → Takes 0 list → Takes 0 (section_at head list)
takes-section head list one = takes-choose (next_is (Word head)) (takes-then (any-word head) (λ _. one)) (takes-pure [])

takes-op-name : Takes 1 op_name_at
unfolding op_name_at
takes-op-name =
    takes-then (takes-name is_design_name) (λ object. takes-then (any-fixed (Sign Dot))
    (λ _. takes-then any-name (λ op. takes-pure (record { object = object; op = op }))))

-- ATTRIBUTES
takes-unit : (units : Bool) → Takes 0 (unit_at units)
unfolding unit_at
takes-unit units = takes-choose (next_is_unit units) (takes-then (takes-any 1 (takes-named unit_named)) (λ u. takes-pure (Some u))) (takes-pure None)

pub takes-attribute : (units : Bool) → Takes 1 (attribute_at units)
unfolding attribute_at
takes-attribute units =
    takes-then (takes-named key_named) (λ key. takes-then (any-fixed (Sign Equal))
    (λ _. takes-then (takes-any 1 takes-number) (λ n. takes-then (takes-unit units) (λ u.
    closes (record { key = key; value = n; unit = u })))))

takes-attributes : (units : Bool) → Takes 0 (attributes_at units)
unfolding attributes_at attribute_list_at
takes-attributes units = takes-section (codes "attributes") (some_at (next_by key_named) (attribute_at units))
    (takes-some (next_by key_named) (attribute_at units) (takes-attribute units))

-- PROVIDED OPERATIONS
takes-param : Takes 0 param_at
unfolding param_at
takes-param =
    takes-then any-name (λ name. takes-then (any-fixed (Sign Colon))
    (λ _. takes-then (takes-any 1 (takes-named mode_named)) (λ mode. takes-then (any-word (codes "word")) (λ _.
    takes-pure (record { name = name; mode = mode })))))

takes-more : Takes 1 more_param_at
unfolding more_param_at
takes-more = takes-then (takes-fixed (Sign Semicolon)) (λ _. takes-param)

takes-params : Takes 0 params_at
unfolding params_at enclosed_at param_list_at
takes-params =
    takes-choose (next_is (Sign LeftParen))
    (takes-then (any-fixed (Sign LeftParen))
    (λ _. takes-then (takes-then takes-param (λ p. takes-then (takes-many (next_is (Sign Semicolon)) more_param_at (takes-any 1 takes-more))
    (λ ps. takes-pure (p ∷ ps)))) (λ ps.
    takes-then (any-fixed (Sign RightParen)) (λ _. takes-pure ps))))
    (takes-pure [])

takes-constraint : Takes 0 constraint_at
unfolding constraint_at
takes-constraint = takes-choose (next_by constraint_named) (takes-then (takes-any 1 (takes-named constraint_named)) (λ c. takes-pure (Some c)))
    (takes-pure None)

pub takes-provided : Takes 1 provided_at
unfolding provided_at
takes-provided =
    takes-then (takes-name is_design_name) (λ name. takes-then takes-params (λ params. takes-then takes-constraint (λ c.
    closes (record { sig = record { name = name; params = params }; constraint = c }))))

takes-provides : Takes 0 provides_at
unfolding provides_at provided_list_at
takes-provides = takes-section (codes "provides") (some_at next_is_design_name provided_at)
    (takes-some next_is_design_name provided_at takes-provided)

-- REQUIRED OPERATIONS
pub takes-needed : Takes 1 needed_at
unfolding needed_at
takes-needed = takes-then takes-op-name (λ o. closes o)

takes-requires : Takes 0 requires_at
unfolding requires_at needed_list_at
takes-requires = takes-section (codes "requires") (some_at next_is_design_name needed_at) (takes-some next_is_design_name needed_at takes-needed)

-- DATA
takes-datum : Takes 1 datum_at
unfolding datum_at
takes-datum = variables.takes-datum is_design_name

takes-locals : Takes 0 locals_at
unfolding locals_at
takes-locals = variables.takes-data is_design_name

takes-data : Takes 0 data_at
unfolding data_at datum_list_at
takes-data = takes-section (codes "data") (some_at next_is_design_name datum_at) (takes-some next_is_design_name datum_at takes-datum)

-- LINKS
pub takes-link : Takes 1 link_at
unfolding link_at
takes-link = takes-then (takes-name is_design_name) (λ op. takes-then (any-word (codes "by"))
    (λ _. takes-then (takes-any 1 takes-op-name) (λ to. closes (record { op = op; to = to }))))

takes-implements : Takes 0 implements_at
unfolding implements_at link_list_at
takes-implements = takes-section (codes "implements") (some_at next_is_design_name link_at) (takes-some next_is_design_name link_at takes-link)

-- BODIES, THREADS AND OBJECTS, over any reader of blocks that leaves no more tokens than there were
module _ (block : BlockReader) (one : Takes 0 block) where
  takes-body : Takes 1 (body_at block)
  unfolding body_at
  takes-body =
      takes-then (takes-fixed (Word (codes "operation")))
      (λ _. takes-then any-name (λ name. takes-then (any-word (codes "is")) (λ _. takes-then takes-locals (λ locals.
      takes-then (any-word (codes "begin"))
      (λ _. takes-then one (λ b. takes-then (takes-phrase (end_tokens name))
      (λ _. takes-pure (record { name = name; locals = locals; block = b }))))))))

  takes-bodies : Takes 0 (bodies_at block)
  unfolding bodies_at
  takes-bodies = takes-many (next_is (Word (codes "operation"))) (body_at block) (takes-any 1 takes-body)

  takes-thread : Takes 0 (thread_at block)
  unfolding thread_at activation_at
  takes-thread =
      takes-choose (next_is (Word (codes "thread")))
      (takes-then (any-word (codes "thread"))
      (λ _. takes-then one (λ b. takes-then (takes-phrase (end_tokens (codes "thread"))) (λ _. takes-pure (Some b))))) (takes-pure None)

  module _ (units : Bool) (children : TreesReader) (two : Takes 0 children) where
    takes-object : Takes 1 (object_at units block children)
    unfolding object_at
    takes-object =
        takes-then (takes-fixed (Word (codes "object")))
        (λ _. takes-then any-name (λ name. takes-then (any-word (codes "is")) (λ _. takes-then (takes-any 1 (takes-named kind_named)) (λ kind.
        takes-then (takes-attributes units) (λ attrs. takes-then takes-provides
        (λ provides. takes-then takes-requires (λ needs. takes-then takes-data (λ vars.
        takes-then takes-bodies (λ bodies. takes-then takes-thread (λ thread. takes-then two (λ trees. takes-then takes-implements (λ links.
        takes-then (takes-phrase (end_tokens name))
        (λ _. takes-pure (Node (record {
          name = name;
          kind = kind;
          attrs = attrs;
          provides = provides;
          needs = needs;
          vars = vars;
          bodies = bodies;
          thread = thread;
          links = links;
        }) trees))))))))))))))

any-block : (most deeper : ℕ) → Takes 0 (block_at is_design_name most deeper)
any-block most deeper = takes-block is_design_name (statement_at is_design_name most deeper) (takes-statement is_design_name most deeper)

pub takes-operation : (deeper : ℕ) → Takes 1 (body_at (block_at is_design_name 32 deeper))
takes-operation deeper = takes-body (block_at is_design_name 32 deeper) (any-block 32 deeper)

takes-children : (list : TreesReader) → Takes 0 list → Takes 0 (children_at list)
unfolding children_at
takes-children list one = takes-choose (next_is (Word (codes "objects"))) (takes-then (any-word (codes "objects")) (λ _. one)) (takes-pure Empty)

takes-none : {A : Type 0} → Takes {A = A} 0 none_at
takes-none {A} = record { fewer = λ ts a rest e. absurd (cc) }

takes-over : Takes 0 over_at
unfolding over_at
takes-over = takes-choose next_is_object (takes-deep 0) takes-none

takes-list : (tree : TreeReader) → Takes 1 tree → Takes 0 (tree_list_at tree)
unfolding tree_list_at
takes-list tree one = takes-then (takes-some next_is_object tree one) (λ ts. takes-pure (trees_of ts))

pub takes-tree : (units : Bool) (deeper : ℕ) → Takes 1 (tree_at units 32 deeper)
unfolding tree_with
takes-tree units zero = takes-object (block_at is_design_name 32 zero) (any-block 32 zero) units (children_at over_at)
    (takes-children over_at takes-over)
takes-tree units (suc deeper) =
    takes-object (block_at is_design_name 32 (suc deeper)) (any-block 32 (suc deeper)) units (children_at (tree_list_at (tree_at units 32 deeper)))
    (takes-children (tree_list_at (tree_at units 32 deeper)) (takes-list (tree_at units 32 deeper) (takes-tree units deeper)))
