-- Reading objects and those inside them, one after another.
use Rattle.std.proofs.Common.{◌≡◌, ℕ, zero, suc, Bool, List, [], ◌∷◌, Ok, Err, refl}
use Rattle.grammar.specs.Reading.{Read, ◌>>=◌, pure_at, many_at}
use Rattle.seq_tree.specs.declared.token.Token.{Token}
use Rattle.ods_tree.specs.Designs.{Tree}
use Rattle.ods_tree.specs.Trees.{trees_of}
use Rattle.ods_tree.specs.Words.{is_design_name}
use Rattle.ods_tree.proofs.Shared.TreeForms.{tree_of_roll}
use Rattle.seq_read.specs.Statements.{block_at}
use Rattle.seq_read.proofs.Shared.Turns.{onward, onward-fails, onward-ends}
use Rattle.ods_read.specs.Nesting.{inside_at}
use Rattle.ods_read.specs.ObjectReaders.{TreeReader, TreesReader, next_is_object, tree_list_at, children_at, object_at, tree_with, tree_at}

-- what follows the last object
abbrev pub close_list : List Tree → TreesReader
close_list ts = pure_at (trees_of ts)

-- the objects so far, and those that are left
abbrev pub trees_after : TreeReader → List Tree → TreesReader
trees_after tree = onward next_is_object tree close_list

pub trees-start : (tree : TreeReader) (ts rest : List Token) (t : Tree) → tree ts ≡ Ok (t, rest)
    → trees_after tree (t ∷ []) rest ≡ tree_list_at tree ts
unfolding tree_list_at onward
trees-start tree ts rest t e = rw e (same (many_at next_is_object tree rest)) where
  same : (q : Read Token (List Tree)) → (q >>= λ y. pure_at (trees_of (t ∷ y.0)) y.1)
      ≡ ((q >>= λ y. pure_at (t ∷ y.0) y.1) >>= λ z. pure_at (trees_of z.0) z.1)
  same (Ok y) = refl
  same (Err halt) = refl

pub trees-fail : (tree : TreeReader) (ts : List Token) (halt : _) → tree ts ≡ Err halt → tree_list_at tree ts ≡ Err halt
unfolding tree_list_at
trees-fail tree ts halt e = rw e refl

pub object_whole : (units : Bool) (deeper : ℕ) (ts : List Token) → tree_at units 32 deeper ts
    ≡ object_at units (block_at is_design_name 32 deeper) (children_at (inside_at units deeper)) ts
unfolding tree_with
object_whole units zero ts = refl
object_whole units (suc deeper) ts = refl

pub ruleset list_steps = (trees-start, trees-fail, onward-fails, onward-ends)

pub ruleset object_steps = (object_whole, tree_of_roll)
