use Rattle.std.proofs.Common.{◌≤◌, length, map, drop}
use Rattle.seq_tree.specs.Lists.{first_from}
use Rattle.seq_tree.specs.Names.{Name, same_name}
use Rattle.seq_tree.specs.Trees.{operation_of}
use Rattle.name_sets.specs.Tables.{named}
use Rattle.linker.specs.Callees.{AddsBodies, IsFound, body_of}
use Rattle.linker.proofs.tables.add_ops.Given as goal

-- the operations from this one on are in the table, and their bodies are there
abbrev pub invariant-ops : goal.invariant-ops
invariant-ops l = record {
  within : l.at ≤ length l.ops;
  more : AddsBodies (map body_of l.fn.bodies.items) (map body_of l.bodies.items);
  found : (n : Name) → IsFound (map body_of l.bodies.items) l.object l.vars (named l.table n)
      (first_from l.at (λ o. same_name o.sig.name n) (map operation_of (drop l.at l.ops)));
}

abbrev pub decreases-ops : goal.decreases-ops
decreases-ops l = l.at
