-- A small design for examples: a passive object, a protected one that calls it, a cyclic one that calls both, and a sporadic one; the
-- root hands an operation on. Beside it two places at which an object can stand.
use Rattle.std.proofs.Common.{[], ◌∷◌, None}
use Rattle.std.specs.Prelude.{codes}
use Rattle.seq_tree.specs.Statements.{Work}
use Rattle.seq_tree.specs.declared.tree.OpName.{OpName}
use Rattle.ods_tree.specs.Designs.{Tree, Node, Design}
use Rattle.ods_tree.specs.Walk.{Standing, own_of}
use Rattle.ods_tree.specs.declared.design.Kind.TheVariants as kind
use Rattle.ods_tree.specs.declared.design.AttrKey.TheVariants.{Period, Separation, ThreadBudget}
use Rattle.ods_tree.proofs.Shared.Short.{attr, call, cyc_with, spo_with, pro, pas, trees, design}

abbrev pub f : OpName
f = record { object = codes "p"; op = codes "f" }

abbrev pub g : OpName
g = record { object = codes "q"; op = codes "g" }

abbrev pub go : OpName
go = record { object = codes "s"; op = codes "go" }

abbrev pub by_root : OpName
by_root = record { object = codes "r"; op = codes "f" }

abbrev pub passive : Tree
passive = pas (codes "p") (codes "f") (Work 3 ∷ [])

abbrev pub guarded : Tree
guarded = pro (codes "q") (codes "g") (call (codes "p") (codes "f") ∷ [])

abbrev pub cyclic : Tree
cyclic = cyc_with (codes "t") (attr Period 100 ∷ attr ThreadBudget 8 ∷ []) [] (call (codes "r") (codes "f") ∷ call (codes "q") (codes "g") ∷ [])

abbrev pub sporadic : Tree
sporadic = spo_with (codes "s") (codes "go") (codes "v") (attr Separation 100 ∷ attr ThreadBudget 100 ∷ []) (Work 1 ∷ [])

abbrev pub root : Tree
root = Node (record {
  name = codes "r";
  kind = kind.Active;
  attrs = [];
  provides = (record { sig = record { name = codes "f"; params = [] }; constraint = None } ∷ []);
  needs = [];
  vars = [];
  bodies = [];
  thread = None;
  links = (record { op = codes "f"; to = f } ∷ []);
}) (trees (passive ∷ guarded ∷ cyclic ∷ sporadic ∷ []))

abbrev pub x : Design
x = design root

-- an object with nothing round it, and one that has a child
abbrev pub alone : Tree → Standing
alone t = record { own = own_of t; parent = None; siblings = own_of t ∷ []; children = [] }

abbrev pub parent : Tree → Standing
parent t = record { own = own_of t; parent = None; siblings = own_of t ∷ []; children = own_of passive ∷ [] }
