-- Sets of the calls that are listed.
-- They tell whether a branch makes a call that an earlier one makes too.
use Rattle.std.specs.Prelude.{◌≡◌, List}
use Rattle.std.specs.List.{list_any}
use Rattle.seq_tree.specs.Calls.{same_op}
use Rattle.seq_tree.specs.declared.tree.OpName.{OpName}
use Rattle.name_sets.specs.Sets.{has_op}
use Rattle.name_sets.specs.declared.sets.Ops.{Ops}

-- the set of what is listed
abbrev pub AreNames : Ops → List OpName → Type 0
AreNames s all = (n : OpName) → has_op s n ≡ list_any (λ d. same_op d n) all
