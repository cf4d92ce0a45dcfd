use Rattle.std.proofs.Common.{◌≡◌, ◌||◌, map, take}
use Rattle.std.specs.List.{list_any}
use Rattle.seq_tree.specs.declared.tree.OpName.{OpName}
use Rattle.ada_rules.specs.Lists.{head_of}
use Rattle.ada_rules.specs.Offers.{is_head}
use Rattle.name_sets.specs.Sets.{has_op}
use Rattle.ada_rules.proofs.ops.add_heads.Given as goal

-- the operations so far
abbrev pub invariant-heads : goal.invariant-heads
invariant-heads l = (n : OpName)
    → has_op l.ops n ≡ (list_any (is_head l.object n) (map head_of (take l.head-index l.heads)) || has_op l.initial.ops n)
