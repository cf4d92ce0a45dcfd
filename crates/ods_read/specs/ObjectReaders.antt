-- Reading an object and the objects inside it, which nest at most so deep.
-- The object description skeleton follows Burns and Wellings 1995; its grammar is this project's own.
use Rattle.std.specs.Prelude.{ℕ, zero, suc, Bool, List, length, Option, Err, codes}
use Rattle.grammar.specs.Reading.{Read, Syntax, then_at, pure_at, choose_at, deep_at}
use Rattle.seq_tree.specs.declared.token.Token.{Token}
use Rattle.seq_tree.specs.declared.token.Token.TheVariants.{Word}
use Rattle.ods_tree.specs.Designs.{Tree, Trees, Node, Empty}
use Rattle.ods_tree.specs.Trees.{trees_of}
use Rattle.ods_tree.specs.Words.{is_design_name}
use Rattle.token_read.specs.Readers.{next_is}
use Rattle.seq_read.specs.Parts.{named_at}
use Rattle.seq_read.specs.Statements.{BlockReader, word, block_at}
use Rattle.ods_read.specs.Readers.{kind_named, design_name_at, end_at, some_at, attributes_at, provides_at, requires_at, data_at, bodies_at}
use Rattle.ods_read.specs.Readers.{thread_at, implements_at}

abbrev pub TreeReader : Type 0
TreeReader = List Token → Read Token Tree

abbrev pub TreesReader : Type 0
TreesReader = List Token → Read Token Trees

-- whether an object is next
abbrev pub next_is_object : Option Token → Bool
next_is_object = next_is (Word (codes "object"))

-- the objects of a section, one at least, behind its word
unfoldable pub tree_list_at : TreeReader → TreesReader
tree_list_at tree = then_at (some_at next_is_object tree) (λ ts. pure_at (trees_of ts))

-- no text goes on
abbrev pub none_at : {A : Type 0} → List Token → Read Token A
none_at ts = Err (Syntax (length ts))

-- objects where none may nest any more: the first is told, and what is no object is a fault of syntax
unfoldable pub over_at : TreesReader
over_at = choose_at next_is_object deep_at none_at

-- the objects inside an object, behind the word of their section, or none where it is not next
unfoldable pub children_at : TreesReader → TreesReader
children_at list = choose_at (next_is (Word (codes "objects"))) (then_at (word (codes "objects")) (λ _. list)) (pure_at Empty)

-- an object, by what is read of the blocks and the objects inside it; its name stands at its end again
unfoldable pub object_at : Bool → BlockReader → TreesReader → TreeReader
object_at units block children =
    then_at (word (codes "object")) (λ _. then_at design_name_at (λ name. then_at (word (codes "is")) (λ _. then_at (named_at kind_named) (λ kind.
    then_at (attributes_at units) (λ attrs. then_at provides_at (λ provides. then_at requires_at (λ needs. then_at data_at (λ vars.
    then_at (bodies_at block) (λ bodies. then_at (thread_at block) (λ thread. then_at children (λ trees. then_at implements_at (λ links.
    then_at (end_at name) (λ _. pure_at (Node (record {
      name = name;
      kind = kind;
      attrs = attrs;
      provides = provides;
      needs = needs;
      vars = vars;
      bodies = bodies;
      thread = thread;
      links = links;
    }) trees))))))))))))))

-- an object inside which constructs and objects nest at most so deep, by what is read of objects where none may nest any more
unfoldable pub tree_with : TreesReader → Bool → ℕ → ℕ → TreeReader
tree_with last units most zero = object_at units (block_at is_design_name most zero) last
tree_with last units most (suc deeper) =
    object_at units (block_at is_design_name most (suc deeper)) (children_at (tree_list_at (tree_with last units most deeper)))

-- an object inside which they nest so
abbrev pub tree_at : Bool → ℕ → ℕ → TreeReader
tree_at units most deeper = tree_with (children_at over_at) units most deeper
