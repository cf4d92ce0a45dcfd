use Rattle.std.proofs.Common.{◌≡◌, ◌++◌, flat_map, map, drop}
use Rattle.seq_tree.specs.Names.{Name}
use Rattle.seq_tree.specs.declared.tree.OpName.{OpName}
use Rattle.ods_calls.specs.Requested.{object_caller, op_caller}
use Rattle.ods_calls.specs.Requesters.{by_object, by_op}
use Rattle.ods_calls.proofs.callers.Callers.add_calls.Given as goal
use Rattle.seq_cost.specs.Different.{call_of}

-- the calls so far, and those that are left
abbrev pub invariant-calls : goal.invariant-calls
invariant-calls l =
    ((n : OpName) → by_op l.self.ops n ++ flat_map (op_caller n (call_of l.from)) (map call_of (drop l.to-index l.calls))
    ≡ by_op l.initial.self.ops n ++ flat_map (op_caller n (call_of l.from)) (map call_of l.calls))
    × ((n : Name) → by_object l.self.objects n ++ flat_map (object_caller n (call_of l.from)) (map call_of (drop l.to-index l.calls))
    ≡ by_object l.initial.self.objects n ++ flat_map (object_caller n (call_of l.from)) (map call_of l.calls))
