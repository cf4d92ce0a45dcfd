-- Lists of names and heads that the code keeps by reference.
-- A body's names are its parameters, its locals and its loops.
use Rattle.std.specs.Prelude.{List, ◌++◌, map}
use Rattle.std.specs.Borrow.{Bor}
use Rattle.seq_tree.specs.Names.{Name}
use Rattle.seq_tree.specs.Operations.{Signature}
use Rattle.seq_tree.specs.Trees.{signature_of}
use Rattle.seq_tree.specs.declared.tree.OpSig.{OpSig}
use Rattle.ada_tree.specs.Bodies.{Body}
use Rattle.ada_tree.specs.Naming.{body_names, block_loops}

-- the names that are meant
abbrev pub names_of : List (Bor Name) → List Name
names_of ns = map (λ n. n.now) ns

-- the head that is meant
abbrev pub head_of : Bor OpSig → Signature
head_of h = signature_of h.now

-- the names of a body and of its loops
abbrev pub body_inner_names : Body → List Name
body_inner_names b = body_names b ++ block_loops b.block
