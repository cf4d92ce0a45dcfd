use Rattle.std.proofs.Common.{◌≡◌, take}
use Rattle.std.specs.List.{list_any}
use Rattle.seq_tree.specs.Calls.{same_op}
use Rattle.seq_tree.specs.declared.tree.OpName.{OpName}
use Rattle.name_sets.specs.Sets.{has_op}
use Rattle.ods_index.proofs.required.Required.new.Given as goal

-- the operations so far
abbrev pub invariant-ops : goal.invariant-ops
invariant-ops l = (n : OpName) → has_op l.set n ≡ list_any (λ need. same_op need n) (take l.need-index l.ops)
