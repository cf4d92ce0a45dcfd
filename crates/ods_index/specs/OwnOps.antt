-- The operations of an object by their names, in order of providing.
-- Those of terminal objects, in flattened order, are what places of operations count.
use Rattle.std.specs.Prelude.{List, map}
use Rattle.seq_tree.specs.declared.tree.OpName.{OpName}
use Rattle.ods_tree.specs.Walk.{Standing}

-- the operations of an object
abbrev pub own_ops : Standing → List OpName
own_ops s = map (λ p. record { object = s.own.name; op = p.sig.name }) s.own.provides
