use Rattle.std.proofs.Common.{map, ap}
use Rattle.seq_tree.specs.Calls.{same_op}
use Rattle.seq_tree.specs.Names.{same_name}
use Rattle.name_sets.specs.Tables.{at, listed, named}
use Rattle.ods_calls.specs.Requesters.{by_object, by_op}
use Rattle.ods_calls.proofs.KeptCalls.{added}
use Rattle.ods_calls.proofs.callers.Callers.add_call.Goals as goal
use Rattle.seq_cost.specs.Different.{call_of}

pub returns-clause-ops : goal.returns-clause-ops
unfolding by_op
returns-clause-ops c = λ n.
    added call_of (same_op (call_of c.args.to.now) n) (listed (at c.extend.new.self n)) (listed (at c.args.self.now.ops n))
    c.in_ok-caller.caller.items _ (c.in_ok-extend.ensures.added n) (ap (map call_of) c.in_ok-caller.ensures.items)

pub returns-clause-objects : goal.returns-clause-objects
unfolding by_object
returns-clause-objects c = λ n.
    added call_of (same_name c.args.to.now.object.now n) (listed (named c.extend-2.new.self n)) (listed (named c.args.self.now.objects n))
    c.in_ok-again.again.items _ (c.in_ok-extend-2.ensures.added n) (ap (map call_of) c.in_ok-again.ensures.items)
