use Rattle.std.proofs.Common.{◌≡◌, map, drop}
use Rattle.std.specs.List.{list_any}
use Rattle.seq_tree.specs.Names.{same_name}
use Rattle.seq_tree.specs.Trees.{block_of}
use Rattle.seq_cost.specs.Different.{call_of}
use Rattle.analysis.specs.Starts.{calls_object}
use Rattle.rt_block.proofs.starters.calls_object.Given as goal

-- the calls that are left settle it
abbrev pub invariant-calls : goal.invariant-calls
invariant-calls l = list_any (λ c. same_name c.object l.name) (map call_of (drop l.call-index l.call-items)) ≡ calls_object l.name (block_of l.block)
