use Rattle.std.proofs.Common.{◌≡◌, not, map, drop}
use Rattle.std.specs.List.{list_any}
use Rattle.seq_cost.specs.Different.{call_of}
use Rattle.name_sets.specs.Sets.{has_op}
use Rattle.ada_rules.proofs.ops.any_missing.Given as goal

-- it is up to the calls that are left
abbrev pub invariant-calls : goal.invariant-calls
invariant-calls l = list_any (λ c. not (has_op l.ops c)) (map call_of (drop l.call-index l.calls))
    ≡ list_any (λ c. not (has_op l.ops c)) (map call_of l.calls)
